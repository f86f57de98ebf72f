-- `pair::gather` meets its contract: each way through a turn is a law of `Gathering`. Assumes nothing.
use mathlib.Core.Path.{refl}
use native.Mathlib.Omega.{arith}
use Rattle.pair.proofs.Gathering.{begun, both_in, wait, join}
use Rattle.pair.proofs.gather.Goals as goal
use Rattle.pair.proofs.gather.Goals.{in-None, in-Some}

pub loop-i-init : goal.loop-i-init
loop-i-init c = rw c.requires.none_waits (begun _ _ c.requires.blank)

pub link-requires : goal.link-requires
link-requires c = both_in _ _ _ _ _ _ c.requires.blank.items c.loop-i.invariant (omega arith) refl _ c.in-Some.is

pub loop-i-preserved : goal.loop-i-preserved
loop-i-preserved c =
    elim c.match-wait-v.branch [
      | in-None w ↦ rw (w.mates-is, w.wait-is) (wait _ _ _ _ _ _ c.requires.blank.items c.loop-i.invariant (omega arith) refl w.in-None.is)
      | in-Some w ↦ rw (w.mates-is, w.wait-is) (join _ _ _ _ _ _ c.requires.blank.items c.loop-i.invariant (omega arith) refl _ w.in-Some.is _ w.link.ensures)
    ]
