-- A number in decimal from its front: its digits one by one, and what stands behind them.
-- Assumes nothing.
use mathlib.Core.Path.{◌≡◌, refl, sym, ap, ◌∙◌}
use mathlib.Core.Bool.{true, false, cond}
use mathlib.Core.Logic.{dite}
use mathlib.Core.List.{List, [], ◌∷◌, ◌++◌}
use Prim.Native.Nat.{ℕ, zero, suc, ◌+◌, ◌-◌, ◌*◌, ◌/◌, ◌%◌, ◌≤◌, ◌<◌}
use native.Mathlib.Decide.{dec_lt}
use native.Mathlib.Omega.{arith}
use lib.ListN.{length, get_or, drop}
use lib.Seq.{append_snoc}
use borrow.Author.Tests.{le-leb}
use Rattle.laws.proofs.Cases.{by_test}
use Rattle.text.specs.Forms.{decimal}
use Rattle.text.proofs.Decimals.{decimal_small, decimal_more}
use Rattle.form.specs.Walk.{is_digit}

pub digit_is : (d : ℕ) → d < 10 → is_digit (48 + d) ≡ true
digit_is d h = rw (le-leb 48 (48 + d) (omega arith), le-leb (48 + d) 57 (omega arith))

-- the value of the digits at the front, counted on from a, and what stands behind them
unfoldable pub past : ℕ → List ℕ → ℕ × List ℕ
past a [] = (a, [])
past a (b ∷ s) = cond (is_digit b) (past (10 * a + (b - 48)) s) (a, b ∷ s)

pub past_end : (a : ℕ) → past a [] ≡ (a, [])
unfolding past
past_end a = refl

pub past_digit : (a b : ℕ) (s : List ℕ) → is_digit b ≡ true → past a (b ∷ s) ≡ past (10 * a + (b - 48)) s
unfolding past
past_digit a b s h = rw h

pub past_other : (a b : ℕ) (s : List ℕ) → is_digit b ≡ false → past a (b ∷ s) ≡ (a, b ∷ s)
unfolding past
past_other a b s h = rw h

-- more digits make no smaller number
pub past_least : (a : ℕ) (s : List ℕ) → a ≤ (past a s).0
past_least a [] = rw (past_end a) (omega arith)
past_least a (b ∷ s) =
    by_test (is_digit b) (λ y. rw (past_digit a b s y) (omega (arith, past_least (10 * a + (b - 48)) s))) (λ n. rw (past_other a b s n) (omega arith))

-- the digits of v are read as v
past_one : (v : ℕ) (s : List ℕ) → v < 10 → past 0 (decimal v ++ s) ≡ past v s
past_one v s l =
    let e : 10 * 0 + (48 + v - 48) ≡ v = omega arith in
    rw (decimal_small v l, past_digit 0 (48 + v) s (digit_is v l), e)

past_by : (k v : ℕ) (s : List ℕ) → v ≤ k → past 0 (decimal v ++ s) ≡ past v s
past_by zero v s h = past_one v s (omega arith)
past_by (suc k) v s h =
    dite (dec_lt v 10) (past_one v s) (λ g.
    let e : 10 * (v / 10) + (48 + v % 10 - 48) ≡ v = omega arith in
    rw (
      decimal_more v (omega arith),
      append_snoc (decimal (v / 10)) (48 + v % 10) s,
      past_by k (v / 10) ((48 + v % 10) ∷ s) (omega arith),
      past_digit (v / 10) (48 + v % 10) s (digit_is (v % 10) (omega arith)),
      e,
    ))

pub past_decimal : (v : ℕ) (s : List ℕ) → past 0 (decimal v ++ s) ≡ past v s
past_decimal v s = past_by v v s (omega arith)

-- the first digit: only 0 begins with a zero
abbrev Begun : ℕ → List ℕ → Type 0
Begun v s = (is_digit (get_or (decimal v ++ s) 0 0) ≡ true) × (get_or (decimal v ++ s) 0 0 ≡ 48 → v ≡ 0)

begun_one : (v : ℕ) (s : List ℕ) → v < 10 → Begun v s
begun_one v s l = rw (decimal_small v l) (digit_is v l, λ e. omega (arith, e))

begun_by : (k v : ℕ) (s : List ℕ) → v ≤ k → Begun v s
begun_by zero v s h = begun_one v s (omega arith)
begun_by (suc k) v s h =
    dite (dec_lt v 10) (begun_one v s) (λ g.
    let i = begun_by k (v / 10) ((48 + v % 10) ∷ s) (omega arith) in
    rw (decimal_more v (omega arith), append_snoc (decimal (v / 10)) (48 + v % 10) s) (i.0, λ e. absurd (omega (arith, i.1 e))))

pub first_digit : (v : ℕ) (s : List ℕ) → is_digit (get_or (decimal v ++ s) 0 0) ≡ true
first_digit v s = (begun_by v v s (omega arith)).0

pub zero_first : (v : ℕ) (s : List ℕ) → get_or (decimal v ++ s) 0 0 ≡ 48 → v ≡ 0
zero_first v s = (begun_by v v s (omega arith)).1

-- one number and one rest: where a byte that is no digit stands behind both
module _ (b : ℕ) (other : is_digit b ≡ false) where
  same_past : (v w : ℕ) (s u : List ℕ) → decimal v ++ s ≡ decimal w ++ (b ∷ u) → past v s ≡ (w, b ∷ u)
  same_past v w s u e = sym (past_decimal v s) ∙ ap (past 0) e ∙ past_decimal w (b ∷ u) ∙ past_other w b u other

  pub number_once : (v w : ℕ) (s u : List ℕ) → decimal v ++ (b ∷ s) ≡ decimal w ++ (b ∷ u) → (v ≡ w) × (s ≡ u)
  number_once v w s u e =
      let z = sym (past_other v b s other) ∙ same_past v w (b ∷ s) u e in
      (ap (λ (p : ℕ × List ℕ). p.0) z, ap (λ (p : ℕ × List ℕ). drop 1 p.1) z)

  -- the digits of v alone end with no such byte
  pub number_ends : (v w : ℕ) (u : List ℕ) → decimal v ++ [] ≡ decimal w ++ (b ∷ u) → ⊥
  number_ends v w u e =
      let z : length (past v []).1 ≡ suc (length u) = ap (λ (p : ℕ × List ℕ). length p.1) (same_past v w [] u e) in
      absurd (omega (arith, rw (past_end v) at z))

  -- behind the digits of v comes that byte, or a digit of a number that is no smaller
  pub number_other : (v w x : ℕ) (s u : List ℕ) → is_digit x ≡ false → decimal v ++ (x ∷ s) ≡ decimal w ++ (b ∷ u) → x ≡ b
  number_other v w x s u n e = ap (λ (p : ℕ × List ℕ). get_or p.1 0 0) (sym (past_other v x s n) ∙ same_past v w (x ∷ s) u e)

  pub number_more : (v w x : ℕ) (s u : List ℕ) → is_digit x ≡ true → decimal v ++ (x ∷ s) ≡ decimal w ++ (b ∷ u) → 10 * v + (x - 48) ≤ w
  number_more v w x s u y e =
      let z : (past (10 * v + (x - 48)) s).0 ≡ w = ap (λ (p : ℕ × List ℕ). p.0) (sym (past_digit v x s y) ∙ same_past v w (x ∷ s) u e) in
      omega (arith, z, past_least (10 * v + (x - 48)) s)
