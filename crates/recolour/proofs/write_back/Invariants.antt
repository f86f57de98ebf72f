-- `recolour::write_back`: the nets so far, `e` of them on x or y, are written back.
use Rattle.recolour.specs.Steps.{WrittenBack}
use Rattle.recolour.proofs.write_back.Given as goal

abbrev pub invariant-loop-net : goal.invariant-loop-net
invariant-loop-net l = WrittenBack l.initial.plan l.plan l.job.head.n l.two.x l.two.y l.s l.mark l.net l.e
