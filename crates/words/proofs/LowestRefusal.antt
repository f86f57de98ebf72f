-- One test of the numbers 0, 1, .., n - 1 in order refuses at the lowest that it holds of.
-- Assumes nothing.
use Rattle.words.specs.declared.Reason.{Reason}
use mathlib.Core.Path.{◌≡◌, sym, ◌∙◌}
use mathlib.Core.Bool.{Bool, false}
use mathlib.Core.Logic.{dite}
use Prim.Native.Nat.{ℕ, ◌<◌}
use native.Mathlib.Decide.{dec_lt}
use native.Mathlib.Omega.{arith}
use borrow.Author.Tests.{lt-ltb, le-ltb}
use Rattle.laws.specs.Lowest.{first_where, somewhere}
use Rattle.laws.proofs.FirstWhere.{first_where_at_most, first_where_before, first_where_holds}
use Rattle.words.specs.declared.Place.{Place}
use Rattle.std.specs.Prelude.{Ok}
use Rattle.words.specs.Verdict.{refuse_if, first_refusal}
use Rattle.words.proofs.Order.{first_stops, first_all, refuses, passes}

module _ (t : ℕ → Bool) (k : Reason) (place : ℕ → Place) where
  pub lowest_refusal : (n : ℕ) → first_refusal (λ i. refuse_if (t i) k (place i)) n ≡ refuse_if (somewhere t n) k (place (first_where t n))
  lowest_refusal n =
      let before : (m : ℕ) → ((i : ℕ) → i < m → t i ≡ false) → first_refusal (λ i. refuse_if (t i) k (place i)) m ≡ Ok tt =
      λ m h. first_all (λ i. refuse_if (t i) k (place i)) m (λ i l. passes (t i) k (place i) (h i l)) in
      dite (dec_lt (first_where t n) n)
      (λ l.
      first_stops (λ i. refuse_if (t i) k (place i)) (first_where t n) n _ (before (first_where t n) (first_where_before t n))
      (refuses (t (first_where t n)) k (place (first_where t n)) (first_where_holds t n l)) l
      ∙ sym (refuses (somewhere t n) k (place (first_where t n)) (lt-ltb (first_where t n) n l)))
      (λ nl.
      before n (λ i l. first_where_before t n i (omega (arith, first_where_at_most t n)))
      ∙ sym (passes (somewhere t n) k (place (first_where t n)) (le-ltb (first_where t n) n (omega arith))))
