-- `pair::sweep` meets its contract: each way through a turn is a law of `Sweeping`. Assumes nothing.
use native.Mathlib.Omega.{arith}
use Rattle.pair.proofs.Sweeping.{start, skip, pick, both_in, join, finish}
use Rattle.pair.proofs.sweep.Goals as goal
use Rattle.pair.proofs.sweep.Goals.{in-Some+in-None, in-Some+in-Some-carry, in_default}

pub loop-w-init : goal.loop-w-init
loop-w-init c = search start

pub link-requires : goal.link-requires
link-requires c = both_in _ _ _ _ _ _ c.loop-w.invariant (omega arith) _ c.in-Some.is _ c.in-Some-carry.is

pub loop-w-preserved : goal.loop-w-preserved
loop-w-preserved c =
    elim c.match-w.branch [
      | in-Some+in-None w ↦ rw (w.mates-is, w.carry-is) (pick _ _ _ _ _ _ c.loop-w.invariant (omega arith) _ w.in-Some.is w.in-None.is)
      | in-Some+in-Some-carry w ↦ rw (w.mates-is, w.carry-is) (join _ _ _ _ _ _ c.loop-w.invariant (omega arith) _ w.in-Some.is _ w.in-Some-carry.is _ w.link.ensures)
      | in_default w ↦ rw (w.mates-is, w.carry-is) (skip _ _ _ _ _ _ c.loop-w.invariant (omega arith) w.in_default.is)
    ]

pub returns : goal.returns
returns c = search finish
