-- What each test says: of two numbers, joined by `and` and `or`, where another holds, and of all numbers below n.
-- Assumes nothing.
use mathlib.Core.Path.{◌≡◌, refl, sym, subst}
use mathlib.Core.Bool.{Bool, true, false, ◌&&◌, ◌||◌, false≢true, and-eq-true_iff, or-true}
use mathlib.Core.Logic.{◌↔◌, dite, ◌⊎◌, inl, inr, ⊎_elim}
use Prim.Native.Nat.{ℕ, zero, suc, ◌≤◌, ◌<◌}
use native.Mathlib.Decide.{ℕ_discrete}
use native.Mathlib.Omega.{arith}
use lib.Dec.{eqb, leb, ltb}
use borrow.Author.Tests.{eqb-true, eq-eqb, leb-true, le-leb, ltb-true, lt-ltb}
use Rattle.laws.specs.Test.{every, implies, Says}

pub eqb_says : (x y : ℕ) → Says (eqb x y) (x ≡ y)
eqb_says x y = (eqb-true x y, eq-eqb x y)

pub leb_says : (x y : ℕ) → Says (leb x y) (x ≤ y)
leb_says x y = (leb-true x y, le-leb x y)

pub ltb_says : (x y : ℕ) → Says (ltb x y) (x < y)
ltb_says x y = (ltb-true x y, lt-ltb x y)

or_true_parts : (a b : Bool) → (a || b) ≡ true → (a ≡ true) ⊎ (b ≡ true)
or_true_parts true b e = inl e
or_true_parts false b e = inr e

or_true_of : (a b : Bool) → (a ≡ true) ⊎ (b ≡ true) → (a || b) ≡ true
or_true_of a b (inl e) = subst (λ (x : Bool). (x || b) ≡ true) (sym e) refl
or_true_of a b (inr e) = subst (λ (x : Bool). (a || x) ≡ true) (sym e) (or-true a)

implies_parts : (a b : Bool) → (implies a b ≡ true) ↔ (a ≡ true → b ≡ true)
implies_parts true b = (λ e _. e, λ h. h refl)
implies_parts false b = (λ _ e. absurd (false≢true e), λ _. refl)

module _ (a b : Bool) {A B : Type 0} (s : Says a A) (t : Says b B) where
  pub and_says : Says (a && b) (A × B)
  and_says = (
    λ e. let p = (and-eq-true_iff a b).0 e in (s.0 p.0, t.0 p.1),
    λ h. (and-eq-true_iff a b).1 (s.1 h.0, t.1 h.1),
  )

  pub or_says : Says (a || b) (A ⊎ B)
  or_says = (
    λ e. ⊎_elim (λ p. inl (s.0 p)) (λ p. inr (t.0 p)) (or_true_parts a b e),
    λ h. or_true_of a b (⊎_elim (λ p. inl (s.1 p)) (λ p. inr (t.1 p)) h),
  )

  pub implies_says : Says (implies a b) (A → B)
  implies_says = (λ e p. t.0 ((implies_parts a b).0 e (s.1 p)), λ h. (implies_parts a b).1 (λ e. t.1 (h (s.0 e))))

-- the test of all is the test of each
module _ (t : ℕ → Bool) where
  pub every_true : (n : ℕ) → every t n ≡ true → (k : ℕ) → k < n → t k ≡ true
  unfolding every
  every_true zero e k l = absurd (omega arith)
  every_true (suc n) e k l =
      let both = (and-eq-true_iff (every t n) (t n)).0 e in
      dite (ℕ_discrete k n) (λ q. subst (λ (j : ℕ). t j ≡ true) (sym q) both.1) (λ ne. every_true n both.0 k (omega arith))

  pub true_every : (n : ℕ) → ((k : ℕ) → k < n → t k ≡ true) → every t n ≡ true
  unfolding every
  true_every zero h = refl
  true_every (suc n) h = (and-eq-true_iff (every t n) (t n)).1 (true_every n (λ k l. h k (omega arith)), h n (omega arith))

  pub every_says : (n : ℕ) {P : ℕ → Type 0} → ((k : ℕ) → Says (t k) (P k)) → Says (every t n) ((k : ℕ) → k < n → P k)
  every_says n s = (λ e k l. (s k).0 (every_true n e k l), λ h. true_every n (λ k l. (s k).1 (h k l)))
