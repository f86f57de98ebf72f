-- Searching the numbers below n in order.
-- Assumes nothing.
use mathlib.Core.Path.{subst}
use mathlib.Core.Logic.{dite, ◌⊎◌, inl, inr, ⊎_elim}
use Prim.Native.Nat.{ℕ, zero, suc, ◌<◌}
use native.Mathlib.Decide.{ℕ_discrete}
use native.Mathlib.Omega.{arith}
use Rattle.laws.specs.Lowest.{Lowest}

-- one is found, or there is none
module _ (P : ℕ → Type 0) (dec : (k : ℕ) → Dec (P k)) where
  at_the_end : (n : ℕ) → ((k : ℕ) → k < n → P k → ⊥) → Dec (P n) → Lowest P (suc n) ⊎ ((k : ℕ) → k < suc n → P k → ⊥)
  at_the_end n h (yes p) = inl (record { at = n; below = omega arith; holds = p; first = h })
  at_the_end n h (no q) = inr (λ k l p. dite (ℕ_discrete k n) (λ e. q (subst P e p)) (λ ne. h k (omega arith) p))

  pub lowest : (n : ℕ) → Lowest P n ⊎ ((k : ℕ) → k < n → P k → ⊥)
  lowest zero = inr (λ k l p. absurd (omega arith))
  lowest (suc n) =
      ⊎_elim (λ w. inl (record { at = w.at; below = omega arith; holds = w.holds; first = w.first }))
      (λ h. at_the_end n h (dec n)) (lowest n)
