-- Items below n in pairs, and labels 0 and 1 that differ in each pair.
use Rattle.std.specs.Prelude.{◌≡◌, ℕ, ◌+◌, ◌<◌, eqb}
use Rattle.laws.specs.Sum.{when}

-- P pairs the items below n: each with another, and that one with it
pub record Perfect (n : ℕ) (P : ℕ → ℕ) : Type 0 where
  pub below : (i : ℕ) → i < n → P i < n
  pub moves : (i : ℕ) → i < n → P i ≡ i → ⊥
  pub back : (i : ℕ) → i < n → P (P i) ≡ i

-- one label is 0 and the other 1 in each pair
abbrev pub Alternates : ℕ → (ℕ → ℕ) → (ℕ → ℕ) → Type 0
Alternates n P x = (i : ℕ) → i < n → x i + x (P i) ≡ 1

-- 1 if item k has the label b, else 0
unfoldable pub is : (ℕ → ℕ) → ℕ → ℕ → ℕ
is x b k = when (eqb (x k) b) 1
