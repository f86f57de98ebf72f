-- `sheet::put::copy` meets its contract.
use Rattle.words.specs.Lent.{onto}
use lib.ListN.{length, take}
use mathlib.Core.Path.{◌≡◌}
use Prim.Native.Nat.{◌≤◌}
use Rattle.sheet.proofs.put.copy.Given as goal

abbrev pub invariant-loop-i : goal.invariant-loop-i
invariant-loop-i l = (l.i ≤ length l.from) × (length l.room ≡ length l.initial.room) × (l.room ≡ onto (take l.i l.from) l.initial.room)
