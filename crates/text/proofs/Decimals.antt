-- The digits of a number.
-- Assumes nothing.
use mathlib.Core.Path.{◌≡◌, refl, sym, ap, ◌∙◌}
use mathlib.Core.Logic.{dite}
use mathlib.Core.List.{List, [], ◌∷◌, ◌++◌}
use Prim.Native.Nat.{ℕ, zero, suc, ◌+◌, ◌/◌, ◌%◌, ◌^◌, ◌≤◌, ◌<◌}
use native.Mathlib.Decide.{dec_lt}
use native.Mathlib.Omega.{arith}
use lib.ListN.{length, length-append}
use borrow.Author.Tests.{lt-ltb, le-ltb}
use Rattle.text.specs.Forms.{decimal_by, decimal}

by_small : (k n : ℕ) → n < 10 → decimal_by k n ≡ (48 + n) ∷ []
unfolding decimal_by
by_small zero n h = refl
by_small (suc k) n h = rw (lt-ltb n 10 h)

by_more : (k n : ℕ) → 10 ≤ n → decimal_by (suc k) n ≡ decimal_by k (n / 10) ++ ((48 + n % 10) ∷ [])
unfolding decimal_by
by_more k n h = rw (le-ltb n 10 h)

-- more digits than there are change nothing
by_enough : (j k n : ℕ) → n ≤ j → n ≤ k → decimal_by j n ≡ decimal_by k n
by_enough zero k n p q = by_small zero n (omega arith) ∙ sym (by_small k n (omega arith))
by_enough (suc j) zero n p q = by_small (suc j) n (omega arith) ∙ sym (by_small zero n (omega arith))
by_enough (suc j) (suc k) n p q =
    dite (dec_lt n 10) (λ l. by_small (suc j) n l ∙ sym (by_small (suc k) n l))
    (λ g. rw (by_more j n (omega arith), by_more k n (omega arith), by_enough j k (n / 10) (omega arith) (omega arith)))

pub decimal_small : (n : ℕ) → n < 10 → decimal n ≡ (48 + n) ∷ []
unfolding decimal
decimal_small n h = by_small n n h

pub decimal_more : (n : ℕ) → 10 ≤ n → decimal n ≡ decimal (n / 10) ++ ((48 + n % 10) ∷ [])
unfolding decimal
decimal_more zero h = absurd (omega arith)
decimal_more (suc k) h = by_more k (suc k) h ∙ ap (λ (l : List ℕ). l ++ ((48 + suc k % 10) ∷ [])) (by_enough k (suc k / 10) (suc k / 10) (omega arith) (omega arith))

-- a number below 10, 100, 1000, .. has at most 1, 2, 3, .. digits
pub decimal_short : (k n : ℕ) → n < 10 ^ suc k → length (decimal n) ≤ suc k
decimal_short zero n h = rw (decimal_small n (omega arith)) (omega arith)
decimal_short (suc k) n h =
    dite (dec_lt n 10) (λ l. rw (decimal_small n l) (omega arith))
    (λ g. rw (decimal_more n (omega arith)) (simp length-append (omega (arith, decimal_short k (n / 10) (omega arith)))))

-- how many digits: one below 10, and one more than its tenth has from there on
pub one_long : (n : ℕ) → n < 10 → length (decimal n) ≡ 1
one_long n h = rw (decimal_small n h)

pub more_long : (n : ℕ) → 10 ≤ n → length (decimal n) ≡ length (decimal (n / 10)) + 1
more_long n h = rw (decimal_more n h) (length-append (decimal (n / 10)) _)
