-- `split::flip` meets its contract: the state is `Flipped`, one more net each turn. Assumes nothing.
use Rattle.split.specs.Stages.{Flipped}
use Rattle.split.proofs.flip.Given as goal

abbrev pub invariant-loop-i : goal.invariant-loop-i
invariant-loop-i l = Flipped l.others l.k l.i
