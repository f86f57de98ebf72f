-- `recolour::collect`: the nets so far, `e` of them on x or y, are collected.
use Rattle.recolour.specs.Steps.{Collected}
use Rattle.recolour.proofs.collect.Given as goal

abbrev pub invariant-loop-net : goal.invariant-loop-net
invariant-loop-net l = Collected l.job l.plan l.two.x l.two.y l.k l.initial.s l.s l.net l.e
