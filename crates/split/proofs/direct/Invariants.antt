-- `split::direct` meets its contract: the state is `Directed`, one more net each turn. Assumes nothing.
use Rattle.split.specs.Stages.{Directed}
use Rattle.split.proofs.direct.Given as goal

abbrev pub invariant-loop-e : goal.invariant-loop-e
invariant-loop-e l = Directed l.initial.ends l.ends l.labels l.k l.e
