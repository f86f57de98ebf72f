-- The items at an FPGA, counted by their labels.
-- Assumes nothing.
use mathlib.Core.Path.{◌≡◌}
use mathlib.Core.Logic.{◌≢◌}
use Prim.Native.Nat.{ℕ, ◌+◌, ◌≤◌, ◌<◌}
use native.Mathlib.Omega.{arith}
use lib.Dec.{eqb}
use borrow.Author.Tests.{eq-eqb, ne_eqb}
use Rattle.laws.specs.Matching.{is}
use Rattle.laws.proofs.Sum.{sum_same, when_none}
use Rattle.laws.proofs.Cases.{by_same}
use Rattle.laws.proofs.Matching.{is_yes, is_no}
use Rattle.pair.specs.Pair.{hit, count, Near}

-- a label of 0 or 1 counts for one of the two
pub is_one : (x : ℕ → ℕ) (k : ℕ) → x k ≤ 1 → (is x 0 k + x k ≡ 1) × (is x 1 k ≡ x k)
is_one x k h =
    by_same (x k) 0 (λ e. omega (arith, is_yes x 0 k e, is_no x 1 k (omega arith))) (λ ne. omega (arith, is_no x 0 k ne, is_yes x 1 k (omega arith)))

-- an item at the FPGA v, one elsewhere, and one of another label
pub hit_here : (fpga x : ℕ → ℕ) (v k : ℕ) → fpga k ≡ v → x k ≤ 1 → (hit fpga x v 0 k + x k ≡ 1) × (hit fpga x v 1 k ≡ x k)
unfolding hit is
hit_here fpga x v k e h = rw (eq-eqb (fpga k) v e) (is_one x k h)

pub hit_else : (fpga x : ℕ → ℕ) (v b k : ℕ) → fpga k ≢ v → hit fpga x v b k ≡ 0
unfolding hit
hit_else fpga x v b k e = rw (ne_eqb (fpga k) v e)

pub hit_not : (fpga x : ℕ → ℕ) (v b k : ℕ) → x k ≢ b → hit fpga x v b k ≡ 0
unfolding hit
hit_not fpga x v b k e = rw (ne_eqb (x k) b e) (when_none (eqb (fpga k) v))

-- only the FPGA and the label of an item count
pub hit_same : (f g x y : ℕ → ℕ) (v b k : ℕ) → f k ≡ g k → x k ≡ y k → hit f x v b k ≡ hit g y v b k
unfolding hit
hit_same f g x y v b k ef ex = rw (ef, ex)

module _ (f g x y : ℕ → ℕ) (n : ℕ) (ef : (k : ℕ) → k < n → f k ≡ g k) (ex : (k : ℕ) → k < n → x k ≡ y k) (v : ℕ) where
  pub count_same : (b : ℕ) → count f x v b n ≡ count g y v b n
  count_same b = sum_same (hit f x v b) (hit g y v b) n (λ k l. hit_same f g x y v b k (ef k l) (ex k l))

  pub near_same : Near (count f x v 0 n) (count f x v 1 n) → Near (count g y v 0 n) (count g y v 1 n)
  near_same h = omega (arith, count_same 0, count_same 1)
