-- Counting the numbers below n that leave a given remainder.
-- Assumes nothing.
use mathlib.Core.Path.{◌≡◌, ap, ◌∙◌}
use mathlib.Core.Logic.{dite}
use Prim.Native.Nat.{ℕ, zero, suc, ◌+◌, ◌*◌, ◌/◌, ◌%◌, ◌≤◌, ◌<◌}
use native.Mathlib.Nat.{mod-lt, div-add-mod', mul-add-div_right, mul-add-mod_self_right, div-eq_of_lt, mod-eq_of_lt, div_self, mod_self, zero-div, zero-mod}
use native.Mathlib.Decide.{ℕ_discrete, dec_lt}
use native.Mathlib.Omega.{arith}
use lib.Dec.{eqb, ltb}
use borrow.Author.Tests.{lt-ltb, le-ltb}
use Rattle.laws.specs.Sum.{sum, when}
use Rattle.laws.proofs.Sum.{when_here, when_else}

-- the next number: its quotient and its remainder
module _ (c n : ℕ) (p : 0 < c) where
  parts : suc n ≡ n / c * c + suc (n % c)
  parts = omega (arith, div-add-mod' n c)

  next : (suc n / c ≡ n / c + suc (n % c) / c) × (suc n % c ≡ suc (n % c) % c)
  next = (ap (λ (k : ℕ). k / c) parts ∙ mul-add-div_right p (n / c) (suc (n % c)), ap (λ (k : ℕ). k % c) parts ∙ mul-add-mod_self_right (n / c) c (suc (n % c)))

  pub next_inside : n % c + 1 < c → (suc n / c ≡ n / c) × (suc n % c ≡ n % c + 1)
  next_inside l =
      let q : suc (n % c) < c = omega arith in
      (omega (arith, next.0, div-eq_of_lt q), omega (arith, next.1, mod-eq_of_lt q))

  pub next_round : n % c + 1 ≡ c → (suc n / c ≡ n / c + 1) × (suc n % c ≡ 0)
  next_round e =
      let q : suc (n % c) ≡ c = omega arith in
      (omega (arith, next.0, ap (λ (k : ℕ). k / c) q, div_self p), omega (arith, next.1, ap (λ (k : ℕ). k % c) q, mod_self c))

-- 1 where x is below y: y + 1 counts y too
before : (x y : ℕ) → x < y → when (ltb x y) 1 ≡ 1
before x y l = rw (lt-ltb x y l)

not_before : (x y : ℕ) → y ≤ x → when (ltb x y) 1 ≡ 0
not_before x y l = rw (le-ltb x y l)

before_next : (x y : ℕ) → when (ltb x y) 1 + when (eqb y x) 1 ≡ when (ltb x (y + 1)) 1
before_next x y =
    dite (ℕ_discrete y x) (λ e. omega (arith, not_before x y (omega arith), when_here y 1 x e, before x (y + 1) (omega arith)))
    (λ ne. dite (dec_lt x y) (λ l. omega (arith, before x y l, when_else y 1 x ne, before x (y + 1) (omega arith)))
    (λ g. omega (arith, not_before x y (omega arith), when_else y 1 x ne, not_before x (y + 1) (omega arith))))

-- how many numbers below n leave the remainder x
module _ (c x : ℕ) (l : x < c) where
  one_more : (n : ℕ) → n / c + when (ltb x (n % c + 1)) 1 ≡ suc n / c + when (ltb x (suc n % c)) 1
  one_more n =
      let p : 0 < c = omega arith in
      let b = mod-lt n p in
      dite (dec_lt (n % c + 1) c) (λ i. let h = next_inside c n p i in omega (arith, h.0, ap (λ (y : ℕ). when (ltb x y) 1) h.1))
      (λ o. let h = next_round c n p (omega arith) in omega (arith, h.0, before x (n % c + 1) (omega arith), not_before x (suc n % c) (omega (arith, h.1))))

  pub remainders : (n : ℕ) → sum (λ i. when (eqb (i % c) x) 1) n ≡ n / c + when (ltb x (n % c)) 1
  unfolding sum
  remainders zero = omega (arith, zero-div c, not_before x (0 % c) (omega (arith, zero-mod c)))
  remainders (suc n) = omega (arith, remainders n, before_next x (n % c), one_more n)
