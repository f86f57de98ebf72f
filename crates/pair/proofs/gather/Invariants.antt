-- `pair::gather` meets its contract: each way through a turn is a law of `Gathering`. Assumes nothing.
use lib.ListN.{length}
use Rattle.laws.specs.Row.{at}
use Rattle.pair.specs.Making.{PairedUpTo}
use Rattle.pair.proofs.gather.Given as goal

abbrev pub invariant-loop-i : goal.invariant-loop-i
invariant-loop-i l = PairedUpTo (at l.fpgas) (length l.fpgas) l.mates l.wait l.i
