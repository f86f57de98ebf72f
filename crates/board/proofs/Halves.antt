-- When two loads l and r are halves of s as the rule asks: this is where an even width is needed.
-- Assumes nothing.
use mathlib.Core.Path.{◌≡◌}
use mathlib.Core.Logic.{dite, ◌⊎◌, inl, inr}
use Prim.Native.Nat.{ℕ, ◌+◌, ◌*◌, ◌%◌, ◌≤◌}
use native.Mathlib.Decide.{ℕ_discrete}
use native.Mathlib.Omega.{arith}
use Rattle.board.specs.Rule.{differ, Halves}

-- at most two apart, at most one where s is odd, and equal where s is twice the width 2 w
module _ (w s l r : ℕ) (all : l + r ≡ s) (near : (l ≤ r + 2) × (r ≤ l + 2)) (odd : s % 2 ≡ 1 → (l ≤ r + 1) × (r ≤ l + 1)) (full : s ≡ 4 * w → l ≡ r) where
  differ_odd : s % 2 ≡ 1 → differ l r ≡ 1
  unfolding differ
  differ_odd o = omega (arith, odd o)

  differ_even : s % 2 ≡ 0 → (differ l r ≡ 0) ⊎ (differ l r ≡ 2)
  unfolding differ
  differ_even o = dite (ℕ_discrete l r) (λ e. inl (omega arith)) (λ ne. inr (omega arith))

  within : s ≤ 4 * w → (l ≤ 2 * w) × (r ≤ 2 * w)
  within h =
      dite (ℕ_discrete (s % 2) 1) (λ o. let d = odd o in (omega arith, omega arith))
      (λ no. dite (ℕ_discrete s (4 * w)) (λ e. let d = full e in (omega arith, omega arith)) (λ ne. (omega arith, omega arith)))

  beyond : 4 * w ≤ s → (2 * w ≤ l) × (2 * w ≤ r)
  beyond h =
      dite (ℕ_discrete (s % 2) 1) (λ o. let d = odd o in (omega arith, omega arith))
      (λ no. dite (ℕ_discrete s (4 * w)) (λ e. let d = full e in (omega arith, omega arith)) (λ ne. (omega arith, omega arith)))

  pub halves_if : Halves (2 * w) s l r
  halves_if =
      record {
        low = λ h. within (omega arith);
        high = λ h. beyond (omega arith);
        odd = differ_odd;
        even = differ_even;
      }
