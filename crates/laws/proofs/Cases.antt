-- Cases on whether a test holds, and on whether a number is a given one, one of two, or in the first half of 2 k.
-- Assumes nothing.
use mathlib.Core.Path.{◌≡◌, refl, sym, subst}
use mathlib.Core.Bool.{Bool, true, false}
use mathlib.Core.Logic.{◌≢◌, dite}
use Prim.Native.Nat.{ℕ, ◌+◌, ◌-◌, ◌<◌}
use native.Mathlib.Decide.{ℕ_discrete, dec_lt}
use native.Mathlib.Omega.{arith}

-- a test holds or fails
pub by_test : {C : Type 0} (b : Bool) → (b ≡ true → C) → (b ≡ false → C) → C
by_test true f g = f refl
by_test false f g = g refl

-- two numbers are equal or not
pub by_same : {C : Type 0} (a b : ℕ) → (a ≡ b → C) → (a ≢ b → C) → C
by_same a b f g = dite (ℕ_discrete a b) f g

-- what holds at i and at every other number holds everywhere
pub by_one : (P : ℕ → Type 0) (i : ℕ) → P i → ((k : ℕ) → k ≢ i → P k) → (k : ℕ) → P k
by_one P i hi h k = by_same k i (λ e. subst P (sym e) hi) (h k)

-- the same with two given numbers
pub by_two : (P : ℕ → Type 0) (i j : ℕ) → P i → P j → ((k : ℕ) → k ≢ i → k ≢ j → P k) → (k : ℕ) → P k
by_two P i j hi hj h = by_one P i hi (λ k ni. by_same k j (λ e. subst P (sym e) hj) (h k ni))

-- what holds below k, and at k + j for each j below k, holds below k + k
pub by_half : (P : ℕ → Type 0) (k : ℕ) → ((i : ℕ) → i < k → P i) → ((j : ℕ) → j < k → P (k + j)) → (i : ℕ) → i < k + k → P i
by_half P k low high i l =
    dite (dec_lt i k) (low i) (λ q. let e : k + (i - k) ≡ i = omega arith in subst P e (high (i - k) (omega arith)))
