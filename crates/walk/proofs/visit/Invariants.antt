-- `walk::visit` meets its contract: the state is `Wending`, and the measure how many labels are still to come. Assumes nothing.
use lib.ListN.{length}
use Rattle.laws.specs.Sum.{sum}
use Rattle.laws.specs.Row.{at}
use Rattle.laws.specs.Matching.{is}
use Rattle.walk.specs.Going.{no_label}
use Rattle.walk.proofs.Labelling.{Wending}
use Rattle.walk.proofs.visit.Given as goal

abbrev pub invariant-loop-labels : goal.invariant-loop-labels
invariant-loop-labels l = Wending l.p l.q l.initial.labels l.labels l.a l.item

abbrev pub decreases-loop-labels : goal.decreases-loop-labels
decreases-loop-labels l = sum (is (at l.labels) no_label) (length l.p)
