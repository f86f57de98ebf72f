-- The lowest number of those below n with a property, and the search for it that computes.
use Rattle.std.specs.Prelude.{Bool, true, false, ℕ, zero, suc, ◌<◌, ltb}

-- a number below n with the property, and no lower one has it
pub record Lowest (P : ℕ → Type 0) (n : ℕ) : Type 0 where
  pub at : ℕ
  pub below : at < n
  pub holds : P at
  pub first : (k : ℕ) → k < at → P k → ⊥

-- k where the test holds, and else the next number
abbrev pub step_unless : Bool → ℕ → ℕ
step_unless true k = k
step_unless false k = suc k

-- the lowest k below n at which the test holds, and n if there is none: from 0 on, a step for as long as it fails
unfoldable pub first_where : (ℕ → Bool) → ℕ → ℕ
first_where t zero = 0
first_where t (suc n) = step_unless (t (first_where t n)) (first_where t n)

-- the test holds at one of the numbers below n
abbrev pub somewhere : (ℕ → Bool) → ℕ → Bool
somewhere t n = ltb (first_where t n) n
