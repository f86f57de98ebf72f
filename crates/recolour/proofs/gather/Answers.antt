-- `recolour::gather`: a dummy stands behind the nets where their number is odd.
use Rattle.recolour.proofs.Gathering.{gathered_even, gathered_odd}
use Rattle.recolour.proofs.gather.Goals as goal

pub returns-then-count-k : goal.returns-then-count-k
returns-then-count-k c = search gathered_odd

pub returns-else-count-k : goal.returns-else-count-k
returns-else-count-k c = search gathered_even
