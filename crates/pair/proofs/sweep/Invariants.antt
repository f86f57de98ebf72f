-- `pair::sweep` meets its contract: each way through a turn is a law of `Sweeping`. Assumes nothing.
use lib.ListN.{length}
use Rattle.pair.proofs.Sweeping.{Swept}
use Rattle.pair.proofs.sweep.Given as goal

abbrev pub invariant-loop-w : goal.invariant-loop-w
invariant-loop-w l = Swept (length l.initial.mates) l.wait l.initial.mates l.mates l.carry l.w-index
