-- `words::number::write_list` meets its contract.
use Rattle.words.specs.Number.{bytes}
use Rattle.words.specs.Lent.{onto}
use lib.ListN.{length, take}
use mathlib.Core.Path.{◌≡◌}
use Prim.Native.Nat.{◌≤◌, ◌-◌}
use Rattle.words.proofs.number.write_list.Given as goal

abbrev pub invariant-loop-i : goal.invariant-loop-i
invariant-loop-i l = (l.i ≤ length l.xs) × (length l.room ≡ length l.initial.room) × (l.room ≡ onto (bytes (take l.i l.xs)) l.initial.room)

abbrev pub decreases-loop-i : goal.decreases-loop-i
decreases-loop-i l = length l.xs - l.i
