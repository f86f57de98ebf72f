-- `finish::settle::rounds`: one more round each turn.
use mathlib.Core.Path.{◌≡◌}
use native.Mathlib.Omega.{arith}
use Rattle.finish.proofs.Settling.{chained_none, chained_enough, chained_more, chained_settled}
use Rattle.finish.proofs.settle.rounds.Goals as goal

pub loop-made-init : goal.loop-made-init
loop-made-init c = chained_none _ _ _ c.requires.ready

pub returns-then-is_none : goal.returns-then-is_none
returns-then-is_none c = chained_settled _ _ _ c.requires.ready _ _ _ c.loop-made.invariant _ _ _ _ c.is_none.ensures c.if-is_none.true c.step.ensures

pub loop-made-preserved : goal.loop-made-preserved
loop-made-preserved c = chained_more _ _ _ c.requires.ready _ _ _ c.loop-made.invariant _ _ _ _ c.is_none.ensures c.if-is_none.false c.step.ensures

pub returns : goal.returns
returns c =
    let all : c.loop-made.made ≡ c.args.excess = omega arith in
    rw all at (chained_enough _ _ _ c.requires.ready _ _ _ c.loop-made.invariant (omega (arith, c.requires.enough)))
