-- The first refusal in a fixed order.
-- Assumes nothing.
use Rattle.words.specs.declared.Reason.{Reason}
use Rattle.words.specs.declared.Reason.TheVariants as reason
use mathlib.Core.Path.{◌≡◌, refl, sym, ◌∙◌}
use mathlib.Core.Bool.{Bool, true, false}
use mathlib.Core.Logic.{◌↔◌, ⊎_elim}
use Prim.Native.Nat.{ℕ, zero, suc, ◌+◌, ◌≤◌, ◌<◌}
use native.Mathlib.Nat.{eq-or-lt_of_le, le_of_suc-le-suc}
use native.Mathlib.Numerals.{add-one}
use native.Mathlib.Omega.{arith}
use borrow.Author.Tests.{le-ltb, ltb-false}
use Rattle.words.specs.declared.Place.{Place}
use Rattle.words.specs.declared.Refusal.{Refusal}
use Rattle.words.specs.Verdict.{Verdict, answer, refuse, refuse_if, too_short, ◌then◌, first_refusal}
use Rattle.std.specs.Prelude.{Result, Ok, Err}

-- ---- two verdicts, one after the other

pub then_first : (v w : Verdict) → (v then w) ≡ Ok tt → v ≡ Ok tt
unfolding ◌then◌
then_first (Ok _) w h = refl
then_first (Err r) w h = h

pub then_second : (v w : Verdict) → (v then w) ≡ Ok tt → w ≡ Ok tt
unfolding ◌then◌
then_second (Ok _) w h = h
then_second (Err r) w h = cc

pub then_done : (v w : Verdict) → v ≡ Ok tt → w ≡ Ok tt → (v then w) ≡ Ok tt
unfolding ◌then◌
then_done v w p q = rw (p, q)

pub then_refused : (v w : Verdict) (r : Refusal) → v ≡ Err r → (v then w) ≡ Err r
unfolding ◌then◌
then_refused v w r e = rw e

pub then_next : (v w : Verdict) → v ≡ Ok tt → (v then w) ≡ w
unfolding ◌then◌
then_next v w e = rw e

-- ---- an answer by two verdicts, one after the other

module _ {A : Type 0} (x : A) where
  pub by_refused : (v : Verdict) (r : Refusal) → answer v x ≡ Err r → v ≡ Err r
  by_refused (Ok _) r e = cc
  by_refused (Err s) r e = cc

  pub by_passed : (v : Verdict) (y : A) → answer v x ≡ Ok y → (v ≡ Ok tt) × (y ≡ x)
  by_passed (Ok _) y e = (refl, cc)
  by_passed (Err s) y e = cc

  module _ (v w : Verdict) (k : Result A Refusal) (e : k ≡ answer v x) where
    -- where the first refuses, its refusal is the answer of both
    pub stage_refused : (r : Refusal) → k ≡ Err r → k ≡ answer (v then w) x
    unfolding ◌then◌
    stage_refused r q = q ∙ rw (by_refused v r (sym e ∙ q))

    -- where it passes, the second decides
    pub stage_passed : (y : A) → k ≡ Ok y → answer (v then w) x ≡ answer w y
    unfolding ◌then◌
    stage_passed y q = let d = by_passed v y (sym e ∙ q) in rw (d.0, d.1)

-- ---- a test

-- a test that refuses nothing was false
pub passed : (b : Bool) (k : Reason) (place : Place) → refuse_if b k place ≡ Ok tt → b ≡ false
unfolding refuse_if
passed true k place h = cc
passed false k place h = refl

pub passes : (b : Bool) (k : Reason) (place : Place) → b ≡ false → refuse_if b k place ≡ Ok tt
unfolding refuse_if
passes b k place h = rw h

pub refuses : (b : Bool) (k : Reason) (place : Place) → b ≡ true → refuse_if b k place ≡ refuse k place
unfolding refuse_if
refuses b k place h = rw h

-- 11 is not given exactly where what is lent is long enough
pub long_enough : (long least : ℕ) → (too_short long least ≡ Ok tt) ↔ (least ≤ long)
long_enough long least = (λ done. ltb-false _ _ (passed _ reason.RoomShort _ done), λ enough. passes _ reason.RoomShort _ (le-ltb _ _ enough))

-- ---- many verdicts, in order

module _ (g : ℕ → Verdict) where
  -- after i that are done, the next one counts
  pub first_next : (i : ℕ) → first_refusal g i ≡ Ok tt → first_refusal g (i + 1) ≡ g i
  unfolding first_refusal ◌then◌
  first_next i p = rw (add-one, p)

  pub first_stays : (i n : ℕ) (r : Refusal) → first_refusal g i ≡ Err r → i ≤ n → first_refusal g n ≡ Err r
  unfolding first_refusal ◌then◌
  first_stays i zero r p h = let e : i ≡ 0 = omega arith in rw e at p
  first_stays i (suc n) r p h =
      ⊎_elim (λ e. rw e at p) (λ l. rw (first_stays i n r p (le_of_suc-le-suc l))) (eq-or-lt_of_le h)

  pub first_stops : (i n : ℕ) (r : Refusal) → first_refusal g i ≡ Ok tt → g i ≡ Err r → i < n → first_refusal g n ≡ Err r
  first_stops i n r p q h = first_stays (i + 1) n r (first_next i p ∙ q) (omega arith)

  pub first_done : (n : ℕ) → first_refusal g n ≡ Ok tt → (i : ℕ) → i < n → g i ≡ Ok tt
  unfolding first_refusal
  first_done zero p i h = absurd (omega arith)
  first_done (suc n) p i h =
      ⊎_elim (λ e. rw e (then_second (first_refusal g n) (g n) p)) (λ l. first_done n (then_first (first_refusal g n) (g n) p) i l) (eq-or-lt_of_le (le_of_suc-le-suc h))

  pub first_all : (n : ℕ) → ((i : ℕ) → i < n → g i ≡ Ok tt) → first_refusal g n ≡ Ok tt
  unfolding first_refusal
  first_all zero h = refl
  first_all (suc n) h = then_done (first_refusal g n) (g n) (first_all n (λ i l. h i (omega arith))) (h n (omega arith))

pub first_same : (g h : ℕ → Verdict) (n : ℕ) → ((i : ℕ) → i < n → g i ≡ h i) → first_refusal g n ≡ first_refusal h n
unfolding first_refusal
first_same g h zero e = refl
first_same g h (suc n) e = rw (first_same g h n (λ i l. e i (omega arith)), e n (omega arith))

-- ---- many tests, in order: the lowest number at which one holds

module _ (t : ℕ → Bool) (k : Reason) (place : ℕ → Place) where
  abbrev pub tested : ℕ → Verdict
  tested = first_refusal (λ i. refuse_if (t i) k (place i))

  pub tests_stop : (i n : ℕ) → tested i ≡ Ok tt → t i ≡ true → i < n → tested n ≡ refuse k (place i)
  tests_stop i n p h l = first_stops _ i n _ p (refuses (t i) k (place i) h) l

  pub tests_say : (n : ℕ) → (tested n ≡ Ok tt) ↔ ((i : ℕ) → i < n → t i ≡ false)
  tests_say n = (
    λ p i l. passed (t i) k (place i) (first_done _ n p i l),
    λ h. first_all _ n (λ i l. passes (t i) k (place i) (h i l)),
  )
