-- `spare::spare` meets its contract.
use Rattle.refusals.proofs.Asking.{known}
use Rattle.spare.proofs.Rooms.{job_within}
use mathlib.Core.Path.{sym, ◌∙◌}
use Rattle.spare.proofs.spare.Goals as goal

pub left_of-requires-clause-within : goal.left_of-requires-clause-within
left_of-requires-clause-within c = let e = c.in_ok-fitting.ensures in job_within c.in_ok-fitting.fitting _ e.bytes (sym e.verdict)

pub left_of-requires-clause-known : goal.left_of-requires-clause-known
left_of-requires-clause-known c = known _ _ _ (sym c.check_asked.ensures ∙ c.in_ok-check_asked.was)
