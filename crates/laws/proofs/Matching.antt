-- Whether an item has a label.
-- Assumes nothing.
use mathlib.Core.Path.{◌≡◌}
use mathlib.Core.Logic.{◌≢◌}
use Prim.Native.Nat.{ℕ}
use borrow.Author.Tests.{eq-eqb, ne_eqb}
use Rattle.laws.specs.Matching.{is}

pub is_yes : (x : ℕ → ℕ) (b k : ℕ) → x k ≡ b → is x b k ≡ 1
unfolding is
is_yes x b k e = rw (eq-eqb (x k) b e)

pub is_no : (x : ℕ → ℕ) (b k : ℕ) → x k ≢ b → is x b k ≡ 0
unfolding is
is_no x b k e = rw (ne_eqb (x k) b e)

pub is_same : (x y : ℕ → ℕ) (b k : ℕ) → x k ≡ y k → is x b k ≡ is y b k
unfolding is
is_same x y b k e = rw e
