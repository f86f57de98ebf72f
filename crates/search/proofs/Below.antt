-- The lowest of n numbers as an Option: what `find` over a range gives, and the lower of two.
-- Assumes nothing.
use mathlib.Core.Path.{◌≡◌, sym, ◌∙◌}
use mathlib.Core.Bool.{Bool, true, false}
use mathlib.Core.List.{List}
use mathlib.Core.Logic.{dite}
use Prim.Native.Nat.{ℕ, ◌≤◌, ◌<◌}
use native.Mathlib.Decide.{dec_lt}
use native.Mathlib.Omega.{arith}
use borrow.Author.Tests.{lt-ltb, le-ltb}
use denote.Param.Members.{Mut}
use denote.Ref.{Bor}
use Rattle.std.specs.Prelude.{Option, None, Some}
use Rattle.std.specs.Bool.{⊤}
use Rattle.std.specs.Fn.{CalledAt}
use Rattle.std.specs.List.{FoldsTo}
use Rattle.std.specs.Iterator.{YieldsThen}
use Rattle.std.specs.declared.ops.Range.{Range}
use Rattle.std.proofs.iter.Yields.{nat_range_steps}
use Rattle.std.proofs.lemmas.Iterator.{first_from_Range}
use Rattle.std.specs.Option.{MatchOption, unwrap_or, option_or}
use Rattle.laws.specs.Lowest.{first_where}
use Rattle.laws.proofs.FirstWhere.{first_where_at_most, first_where_is, first_where_none}
use Rattle.search.specs.Search.{below}

pub below_some : (n k : ℕ) → k < n → below n k ≡ Some k
unfolding below
below_some n k l = rw (lt-ltb k n l)

pub below_none : (n k : ℕ) → n ≤ k → below n k ≡ None
unfolding below
below_none n k l = rw (le-ltb k n l)

-- the first that passes is the lowest
pub first_below : (t : ℕ → Bool) (n : ℕ) (r : Option ℕ)
    → MatchOption r ((k : ℕ) → 0 ≤ k → k < n → t k ≡ false) (λ i. (0 ≤ i) × (i < n) × (t i ≡ true) × ((k : ℕ) → 0 ≤ k → k < i → t k ≡ false))
    → r ≡ below n (first_where t n)
first_below t n None h = rw ((first_where_none t n).1 (λ k l. h k (omega arith) l)) (sym (below_none n n (omega arith)))
first_below t n (Some i) h = rw (first_where_is t i n h.1 h.2 (λ k l. h.3 k (omega arith) l)) (sym (below_some n i h.1))

pub unwrap_below : (n k : ℕ) → k ≤ n → unwrap_or (below n k) n ≡ k
unwrap_below n k h =
    dite (dec_lt k n) (λ l. rw (below_some n k l)) (λ nl. rw (below_none n k (omega arith)) (omega arith))

-- one below the lowest so far is the lowest; where there is none, that one stays
pub or_below : (n k m : ℕ) → k ≤ n → m ≤ k → option_or (below k m) (below n k) ≡ below n m
or_below n k m h l =
    dite (dec_lt m k) (λ q. rw (below_some k m q, below_some n m (omega arith)))
    (λ nq. let e : m ≡ k = omega arith in rw (below_none k m (omega arith), e))

-- what an answer says of the number
pub below_is : (n k v : ℕ) → Some v ≡ below n k → (v ≡ k) × (v < n)
below_is n k v e =
    dite (dec_lt k n) (λ l. let p = e ∙ below_some n k l in let q : v ≡ k = cc in (q, omega arith))
    (λ nl. let q = e ∙ below_none n k (omega arith) in let z : ◌≡◌ {A = ℕ} 0 1 = cc in absurd (omega arith))

pub below_is_none : (n k : ℕ) → None ≡ below n k → n ≤ k
below_is_none n k e =
    dite (dec_lt k n) (λ l. let q = e ∙ below_some n k l in let z : ◌≡◌ {A = ℕ} 0 1 = cc in absurd (omega arith)) (λ nl. omega arith)

pub unwrap_first : (t : ℕ → Bool) (n : ℕ) {r : Option ℕ} → r ≡ below n (first_where t n) → unwrap_or r n ≡ first_where t n
unwrap_first t n e = rw e (unwrap_below n (first_where t n) (first_where_at_most t n))

-- what `find` over the range answers, where the closure computes the test
pub found_below : {F : Type 0} {g : Mut F (Bor ℕ × Unit {0}) Bool} (t : ℕ → Bool) (n : ℕ) (u : Range ℕ) (f : F) (r : Option ℕ)
    → (xs : List ℕ) × (j : F) × YieldsThen nat_range_steps (record { start = 0; end = n }) xs r u × FoldsTo (λ p x q. CalledAt g p x false q) f xs j × MatchOption r ⊤ (λ x. (h : F) × CalledAt g j x true h)
    → ((x : ℕ) (q : F) → CalledAt g f x true q → t x ≡ true)
    → ((x : ℕ) (q : F) → CalledAt g f x false q → (q ≡ f) × (t x ≡ false))
    → r ≡ below n (first_where t n)
found_below t n u f r ran holds fails =
    first_below t n r (first_from_Range (record { start = 0; end = n }) u f r (λ k. t k ≡ true) (λ k. t k ≡ false) ran holds fails)
