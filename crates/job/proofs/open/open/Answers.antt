-- `job::open::open` meets its contract.
use Rattle.job.proofs.Passing.{passes}
use Rattle.job.proofs.Stages.{its_head, head_is_long}
use Rattle.job.proofs.open.open.Goals as goal

pub head_in-requires : goal.head_in-requires
head_in-requires c = head_is_long _ (its_head _ c.requires)

pub invariant_of-result : goal.invariant_of-result
invariant_of-result c = record { well_formed = rw c.head_in.ensures (passes _ c.requires) }
