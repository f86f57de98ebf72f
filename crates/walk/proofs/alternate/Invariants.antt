-- `walk::alternate` meets its contract: one more item each turn. Assumes nothing.
use Rattle.walk.specs.Going.{Passing}
use Rattle.walk.proofs.alternate.Given as goal

abbrev pub invariant-loop-a : goal.invariant-loop-a
invariant-loop-a l = Passing l.p l.q l.labels l.a
