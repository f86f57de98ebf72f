-- Laws of sums.
-- Assumes nothing.
use mathlib.Core.Path.{◌≡◌, refl, ap, sym, ◌∙◌}
use mathlib.Core.Bool.{Bool, true, false}
use mathlib.Core.Logic.{◌≢◌, dite}
use Prim.Native.Nat.{ℕ, zero, suc, ◌+◌, ◌*◌, ◌≤◌, ◌<◌}
use native.Mathlib.Decide.{ℕ_discrete, dec_lt}
use native.Mathlib.Numerals.{add-one, unary_clauses}
use native.Mathlib.Omega.{arith}
use lib.Dec.{eqb}
use borrow.Author.Tests.{eq-eqb, ne_eqb}
use Rattle.laws.specs.Sum.{sum, when}

module _ (f g : ℕ → ℕ) where
  pub sum_same : (n : ℕ) → ((k : ℕ) → k < n → f k ≡ g k) → sum f n ≡ sum g n
  unfolding sum
  sum_same zero h = refl
  sum_same (suc n) h = omega (arith, sum_same n (λ k l. h k (omega arith)), h n (omega arith))

  pub sum_one : (i n : ℕ) → i < n → ((k : ℕ) → k < n → k ≢ i → f k ≡ g k) → sum f n + g i ≡ sum g n + f i
  unfolding sum
  sum_one i zero l h = omega arith
  sum_one i (suc n) l h =
      dite (ℕ_discrete n i) (λ e. omega (arith, ap f e, ap g e, sum_same n (λ k l. h k (omega arith) (omega arith))))
      (λ ne. omega (arith, h n (omega arith) ne, sum_one i n (omega arith) (λ k l. h k (omega arith))))

  pub sum_two : (i j n : ℕ) → i < n → j < n → i ≢ j → ((k : ℕ) → k < n → k ≢ i → k ≢ j → f k ≡ g k)
      → sum f n + (g i + g j) ≡ sum g n + (f i + f j)
  unfolding sum
  sum_two i j zero li lj ne h = omega arith
  sum_two i j (suc n) li lj ne h =
      dite (ℕ_discrete n i)
      (λ e. omega (arith, ap f e, ap g e, sum_one j n (omega arith) (λ k l nj. h k (omega arith) (omega arith) nj)))
      (λ ni. dite (ℕ_discrete n j)
      (λ e. omega (arith, ap f e, ap g e, sum_one i n (omega arith) (λ k l nk. h k (omega arith) nk (omega arith))))
      (λ nj. omega (arith, h n (omega arith) ni nj, sum_two i j n (omega arith) (omega arith) ne (λ k l. h k (omega arith)))))

pub sum_ones : (f : ℕ → ℕ) (n : ℕ) → ((k : ℕ) → k < n → f k ≡ 1) → sum f n ≡ n
unfolding sum
sum_ones f zero h = refl
sum_ones f (suc n) h = omega (arith, sum_ones f n (λ k l. h k (omega arith)), h n (omega arith))

pub sum_none : (f : ℕ → ℕ) (n : ℕ) → ((k : ℕ) → k < n → f k ≡ 0) → sum f n ≡ 0
unfolding sum
sum_none f zero h = refl
sum_none f (suc n) h = omega (arith, sum_none f n (λ k l. h k (omega arith)), h n (omega arith))

-- one more, as the code has it
pub sum_more : (f : ℕ → ℕ) (n : ℕ) → sum f (n + 1) ≡ sum f n + f n
unfolding sum
sum_more f n = rw add-one

-- sums of functions that are equal in pairs
pub sum_pairs : (f g h j : ℕ → ℕ) (n : ℕ) → ((i : ℕ) → i < n → f i + g i ≡ h i + j i) → sum f n + sum g n ≡ sum h n + sum j n
unfolding sum
sum_pairs f g h j zero e = refl
sum_pairs f g h j (suc n) e = omega (arith, sum_pairs f g h j n (λ i l. e i (omega arith)), e n (omega arith))

pub sum_append : (f : ℕ → ℕ) (n m : ℕ) → sum f (n + m) ≡ sum f n + sum (λ i. f (n + i)) m
unfolding sum
sum_append f n zero = simp unary_clauses
sum_append f n (suc m) = simp unary_clauses (omega (arith, sum_append f n m))

pub sum_zero : (n : ℕ) → sum (λ _. 0) n ≡ 0
unfolding sum
sum_zero zero = refl
sum_zero (suc n) = omega (arith, sum_zero n)

pub when_none : (t : Bool) → when t 0 ≡ 0
when_none true = refl
when_none false = refl

pub when_at_most : (t : Bool) (a : ℕ) → when t a ≤ a
when_at_most true a = omega arith
when_at_most false a = omega arith

-- order
module _ (f g : ℕ → ℕ) where
  pub sum_le : (n : ℕ) → ((k : ℕ) → k < n → f k ≤ g k) → sum f n ≤ sum g n
  unfolding sum
  sum_le zero h = omega arith
  sum_le (suc n) h = omega (arith, sum_le n (λ k l. h k (omega arith)), h n (omega arith))

  pub sum_less : (i n : ℕ) → i < n → ((k : ℕ) → k < n → f k ≤ g k) → f i < g i → sum f n < sum g n
  unfolding sum
  sum_less i zero l h s = omega arith
  sum_less i (suc n) l h s =
      dite (ℕ_discrete n i) (λ e. omega (arith, ap f e, ap g e, sum_le n (λ k l. h k (omega arith))))
      (λ ne. omega (arith, h n (omega arith), sum_less i n (omega arith) (λ k l. h k (omega arith)) s))

  pub sum_add : (n : ℕ) → sum (λ k. f k + g k) n ≡ sum f n + sum g n
  unfolding sum
  sum_add zero = refl
  sum_add (suc n) = omega (arith, sum_add n)

pub sum_const : (w n : ℕ) → sum (λ _. w) n ≡ n * w
unfolding sum
sum_const w zero = omega arith
sum_const w (suc n) = omega (arith, sum_const w n)

module _ (f : ℕ → ℕ) where
  pub sum_at_most : (w n : ℕ) → ((k : ℕ) → k < n → f k ≤ w) → sum f n ≤ n * w
  sum_at_most w n h = omega (arith, sum_const w n, sum_le f (λ _. w) n h)

  pub term_le_sum : (k n : ℕ) → k < n → f k ≤ sum f n
  unfolding sum
  term_le_sum k zero l = omega arith
  term_le_sum k (suc n) l = dite (ℕ_discrete n k) (λ e. omega (arith, ap f e)) (λ ne. omega (arith, term_le_sum k n (omega arith)))

  pub none_of_sum : (n : ℕ) → sum f n ≡ 0 → (k : ℕ) → k < n → f k ≡ 0
  none_of_sum n z k l = omega (arith, term_le_sum k n l)

-- two sums, one inside the other, in either order
pub sum_swap : (h : ℕ → ℕ → ℕ) (m n : ℕ) → sum (λ i. sum (h i) m) n ≡ sum (λ j. sum (λ i. h i j) n) m
unfolding sum
sum_swap h m zero = sym (sum_zero m)
sum_swap h m (suc n) = omega (arith, sum_swap h m n, sum_add (λ j. sum (λ i. h i j) n) (h n) m)

-- `g` counts once, at the number that is k
module _ (k g : ℕ) where
  pub when_here : (x : ℕ) → k ≡ x → when (eqb k x) g ≡ g
  when_here x e = rw (eq-eqb k x e)

  pub when_else : (x : ℕ) → k ≢ x → when (eqb k x) g ≡ 0
  when_else x ne = rw (ne_eqb k x ne)

  pub sum_pick_none : (c : ℕ) → c ≤ k → sum (λ x. when (eqb k x) g) c ≡ 0
  sum_pick_none c l = sum_none (λ x. when (eqb k x) g) c (λ x q. when_else x (omega arith))

  pub sum_pick : (c : ℕ) → k < c → sum (λ x. when (eqb k x) g) c ≡ g
  unfolding sum
  sum_pick zero l = omega arith
  sum_pick (suc c) l =
      dite (ℕ_discrete k c) (λ e. omega (arith, sum_pick_none c (omega arith), when_here c e))
      (λ ne. omega (arith, sum_pick c (omega arith), when_else c ne))

  pub sum_pick_le : (c : ℕ) → sum (λ x. when (eqb k x) g) c ≤ g
  sum_pick_le c = dite (dec_lt k c) (λ l. omega (arith, sum_pick c l)) (λ nl. omega (arith, sum_pick_none c (omega arith)))

-- what is shared out over the numbers below c adds up again: item i goes to `a i`
module _ (a g : ℕ → ℕ) (c n : ℕ) where
  turned : sum (λ x. sum (λ i. when (eqb (a i) x) (g i)) n) c ≡ sum (λ i. sum (λ x. when (eqb (a i) x) (g i)) c) n
  turned = sum_swap (λ x i. when (eqb (a i) x) (g i)) n c

  pub shares_add : ((i : ℕ) → i < n → a i < c) → sum (λ x. sum (λ i. when (eqb (a i) x) (g i)) n) c ≡ sum g n
  shares_add h = turned ∙ sum_same (λ i. sum (λ x. when (eqb (a i) x) (g i)) c) g n (λ i l. sum_pick (a i) (g i) c (h i l))

  pub shares_at_most : sum (λ x. sum (λ i. when (eqb (a i) x) (g i)) n) c ≤ sum g n
  shares_at_most = omega (arith, turned, sum_le (λ i. sum (λ x. when (eqb (a i) x) (g i)) c) g n (λ i l. sum_pick_le (a i) (g i) c))
