-- Sums over the numbers below n, and the greatest and the least of as many.
use Rattle.std.specs.Prelude.{Bool, true, false, ℕ, zero, suc, ◌+◌, min, max}

-- f 0 + f 1 + .. + f (n - 1)
unfoldable pub sum : (ℕ → ℕ) → ℕ → ℕ
sum f zero = 0
sum f (suc n) = sum f n + f n

-- `a` where the test holds, and else 0
abbrev pub when : Bool → ℕ → ℕ
when true a = a
when false a = 0

-- the greatest of f 0, f 1, .., f (n - 1); 0 of none
unfoldable pub greatest : (ℕ → ℕ) → ℕ → ℕ
greatest f zero = 0
greatest f (suc n) = max (greatest f n) (f n)

-- the least of f 0, f 1, .., f (n - 1); 0 of none
unfoldable pub least : (ℕ → ℕ) → ℕ → ℕ
least f zero = 0
least f (suc zero) = f 0
least f (suc (suc n)) = min (least f (suc n)) (f (suc n))
