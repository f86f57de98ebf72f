-- What the first number that passes a test is: one that is lowest, one more number to look at, and two tests in one.
-- Assumes nothing.
use mathlib.Core.Path.{◌≡◌, sym, ap, ◌∙◌}
use mathlib.Core.Bool.{Bool, true, false, ◌||◌, true≢false, or-true}
use mathlib.Core.Logic.{◌↔◌, dite}
use Prim.Native.Nat.{ℕ, zero, suc, ◌+◌, min, ◌≤◌, ◌<◌}
use native.Mathlib.Decide.{ℕ_discrete, dec_lt}
use native.Mathlib.Omega.{arith}
use borrow.Author.Tests.{lt-ltb, le-ltb, ltb-true, ltb-false}
use Rattle.laws.specs.Lowest.{Lowest, step_unless, first_where, somewhere}
use Rattle.laws.specs.Test.{Says}
use Rattle.laws.proofs.Cases.{by_test}

module _ (t : ℕ → Bool) where
  step_holds : (n : ℕ) → t (first_where t n) ≡ true → first_where t (suc n) ≡ first_where t n
  unfolding first_where
  step_holds n e = ap (λ (b : Bool). step_unless b (first_where t n)) e

  step_fails : (n : ℕ) → t (first_where t n) ≡ false → first_where t (suc n) ≡ suc (first_where t n)
  unfolding first_where
  step_fails n e = ap (λ (b : Bool). step_unless b (first_where t n)) e

  -- it is at most n, the test fails below it, and holds at it where it is below n
  pub first_where_at_most : (n : ℕ) → first_where t n ≤ n
  unfolding first_where
  first_where_at_most zero = omega arith
  first_where_at_most (suc n) =
      by_test (t (first_where t n)) (λ e. omega (arith, step_holds n e, first_where_at_most n)) (λ e. omega (arith, step_fails n e, first_where_at_most n))

  pub first_where_before : (n k : ℕ) → k < first_where t n → t k ≡ false
  unfolding first_where
  first_where_before zero k l = absurd (omega arith)
  first_where_before (suc n) k l =
      by_test (t (first_where t n)) (λ e. first_where_before n k (omega (arith, step_holds n e)))
      (λ e. dite (ℕ_discrete k (first_where t n)) (λ q. ap t q ∙ e) (λ ne. first_where_before n k (omega (arith, step_fails n e))))

  pub first_where_holds : (n : ℕ) → first_where t n < n → t (first_where t n) ≡ true
  unfolding first_where
  first_where_holds zero l = absurd (omega arith)
  first_where_holds (suc n) l =
      by_test (t (first_where t n)) (λ e. ap t (step_holds n e) ∙ e)
      (λ e. absurd (true≢false (sym (first_where_holds n (omega (arith, step_fails n e))) ∙ e)))

  -- a number below n that passes, with none below it, is the first
  pub first_where_is : (k n : ℕ) → k < n → t k ≡ true → ((j : ℕ) → j < k → t j ≡ false) → first_where t n ≡ k
  first_where_is k n l e none =
      dite (dec_lt (first_where t n) k) (λ q. absurd (true≢false (sym (first_where_holds n (omega arith)) ∙ none (first_where t n) q)))
      (λ nq. dite (dec_lt k (first_where t n)) (λ q. absurd (true≢false (sym e ∙ first_where_before n k q))) (λ np. omega arith))

  -- it is n exactly where the test holds nowhere below n
  pub first_where_none : (n : ℕ) → (first_where t n ≡ n) ↔ ((k : ℕ) → k < n → t k ≡ false)
  first_where_none n = (
    λ e k l. first_where_before n k (omega arith),
    λ none. dite (dec_lt (first_where t n) n) (λ l. absurd (true≢false (sym (first_where_holds n l) ∙ none (first_where t n) l)))
        (λ nl. omega (arith, first_where_at_most n)),
  )

  -- what was found below i stays found
  pub first_where_kept : (i n : ℕ) → first_where t i < i → i ≤ n → first_where t n ≡ first_where t i
  first_where_kept i n l h = first_where_is (first_where t i) n (omega arith) (first_where_holds i l) (first_where_before i)

  -- a search that ends early, at i, finds the first of all or stops at i
  pub first_where_within : (i n : ℕ) → i ≤ n → first_where t i ≡ min i (first_where t n)
  first_where_within i n h =
      dite (dec_lt (first_where t i) i) (λ l. omega (arith, first_where_kept i n l h))
      (λ nl.
      dite (dec_lt (first_where t n) i)
      (λ l. absurd (true≢false (sym (first_where_holds n (omega arith)) ∙ first_where_before i (first_where t n) (omega arith))))
      (λ nk. omega (arith, first_where_at_most i)))

  -- some number below n passes
  pub somewhere_true : (k n : ℕ) → k < n → t k ≡ true → somewhere t n ≡ true
  somewhere_true k n l e =
      dite (dec_lt (first_where t n) n) (lt-ltb (first_where t n) n)
      (λ nl. absurd (true≢false (sym e ∙ first_where_before n k (omega (arith, first_where_at_most n)))))

  pub somewhere_false : (n : ℕ) → (somewhere t n ≡ false) ↔ ((k : ℕ) → k < n → t k ≡ false)
  somewhere_false n = (
    λ e. (first_where_none n).0 (omega (arith, first_where_at_most n, ltb-false (first_where t n) n e)),
    λ none. le-ltb (first_where t n) n (omega (arith, (first_where_none n).1 none)),
  )

  pub somewhere_more : (i : ℕ) → somewhere t (i + 1) ≡ (somewhere t i || t i)
  somewhere_more i =
      by_test (somewhere t i)
      (λ h. rw h (somewhere_true (first_where t i) (i + 1) (omega (arith, first_where_at_most i)) (first_where_holds i (ltb-true (first_where t i) i h))))
      (λ h. rw h
      (by_test (t i) (λ q. rw q (somewhere_true i (i + 1) (omega arith) q))
      (λ q. rw q ((somewhere_false (i + 1)).1 (λ k l. dite (ℕ_discrete k i) (λ p. ap t p ∙ q) (λ ne. (somewhere_false i).0 h k (omega arith)))))))

-- the statement that a test says: the first below n is the lowest, and what is lowest is the first
module _ (t : ℕ → Bool) {P : ℕ → Type 0} (says : (k : ℕ) → Says (t k) (P k)) where
  pub first_where_lowest : (n : ℕ) → first_where t n < n → Lowest P n
  first_where_lowest n l =
      record {
        at = first_where t n;
        below = l;
        holds = (says (first_where t n)).0 (first_where_holds t n l);
        first = λ k q p. true≢false (sym ((says k).1 p) ∙ first_where_before t n k q);
      }

  pub lowest_is_first : (n : ℕ) (w : Lowest P n) → first_where t n ≡ w.at
  lowest_is_first n w =
      first_where_is t w.at n w.below ((says w.at).1 w.holds) (λ j l. by_test (t j) (λ e. absurd (w.first j l ((says j).0 e))) (λ e. e))

  pub somewhere_says : (n : ℕ) → Says (somewhere t n) (Lowest P n)
  somewhere_says n = (
    λ e. first_where_lowest n (ltb-true (first_where t n) n e),
    λ w. lt-ltb (first_where t n) n (omega (arith, lowest_is_first n w, w.below)),
  )

-- two tests
module _ (s t : ℕ → Bool) where
  pub first_where_same : (n : ℕ) → ((k : ℕ) → k < n → s k ≡ t k) → first_where s n ≡ first_where t n
  first_where_same n e =
      dite (dec_lt (first_where t n) n)
      (λ l. first_where_is s (first_where t n) n l (e (first_where t n) l ∙ first_where_holds t n l) (λ j q. e j (omega arith) ∙ first_where_before t n j q))
      (λ nl.
      let q : first_where t n ≡ n = omega (arith, first_where_at_most t n) in
      (first_where_none s n).1 (λ k l. e k l ∙ (first_where_none t n).0 q k l) ∙ sym q)

  either : ℕ → Bool
  either k = s k || t k

  neither : (k : ℕ) → s k ≡ false → t k ≡ false → either k ≡ false
  unfolding either
  neither k p q = rw (p, q)

  at_most_either : (n k : ℕ) → either k ≡ true → first_where either n ≤ k
  at_most_either n k e = dite (dec_lt k (first_where either n)) (λ q. absurd (true≢false (sym e ∙ first_where_before either n k q))) (λ nq. omega arith)

  at_most_first : (n : ℕ) → first_where either n ≤ first_where s n
  unfolding either
  at_most_first n =
      dite (dec_lt (first_where s n) n) (λ l. at_most_either n (first_where s n) (rw (first_where_holds s n l)))
      (λ nl. omega (arith, first_where_at_most s n, first_where_at_most either n))

  at_most_second : (n : ℕ) → first_where either n ≤ first_where t n
  unfolding either
  at_most_second n =
      dite (dec_lt (first_where t n) n) (λ l. at_most_either n (first_where t n) (rw (first_where_holds t n l) (or-true (s (first_where t n)))))
      (λ nl. omega (arith, first_where_at_most t n, first_where_at_most either n))

  not_below : (n : ℕ) → first_where either n < first_where s n → first_where either n < first_where t n → ⊥
  not_below n p q =
      true≢false
      (sym (first_where_holds either n (omega (arith, first_where_at_most s n)))
      ∙ neither (first_where either n) (first_where_before s n (first_where either n) p) (first_where_before t n (first_where either n) q))

  -- the first that passes one of two tests is the lower of the two firsts
  pub first_where_or : (n : ℕ) → first_where (λ k. s k || t k) n ≡ min (first_where s n) (first_where t n)
  unfolding either
  first_where_or n =
      dite (dec_lt (first_where either n) (first_where s n))
      (λ l. omega (arith, at_most_second n, not_below n l))
      (λ nl. omega (arith, at_most_first n, at_most_second n))

-- tests t v x of rows and columns: the first row that passes in one of the columns below i
module _ (t : ℕ → ℕ → Bool) (f : ℕ) where
  pub first_row_none : first_where (λ v. somewhere (t v) 0) f ≡ f
  first_row_none = (first_where_none (λ v. somewhere (t v) 0) f).1 (λ k l. (somewhere_false (t k) 0).1 (λ x q. absurd (omega arith)))

  -- one column more
  pub first_row_more : (i : ℕ) → first_where (λ v. somewhere (t v) (i + 1)) f ≡ min (first_where (λ v. somewhere (t v) i) f) (first_where (λ v. t v i) f)
  first_row_more i =
      first_where_same (λ v. somewhere (t v) (i + 1)) (λ v. somewhere (t v) i || t v i) f (λ v l. somewhere_more (t v) i)
      ∙ first_where_or (λ v. somewhere (t v) i) (λ v. t v i) f
