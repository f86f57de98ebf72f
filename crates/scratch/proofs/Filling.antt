-- The front of a list, filled with 0.
-- Assumes nothing.
use mathlib.Core.Path.{◌≡◌}
use mathlib.Core.List.{List, ◌++◌}
use Prim.Native.Nat.{ℕ, ◌≤◌}
use lib.ListN.{length, replicate, take, drop}
use lib.Seq.{length-take-le}
use Rattle.scratch.specs.Scratch.{cleared}

pub zeroed : (s : List ℕ) (n : ℕ) (ys : List ℕ) → n ≤ length s → ys ≡ replicate (length (take n s)) 0 → ys ++ drop n s ≡ cleared n s
unfolding cleared
zeroed s n ys h e = rw (e, length-take-le n s h)
