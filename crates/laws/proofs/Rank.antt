-- Laws of ranks: one more number, bounds, and a sum over the picked numbers taken by rank.
-- Assumes nothing.
use mathlib.Core.Path.{◌≡◌, refl, ap, ◌∙◌}
use mathlib.Core.Bool.{Bool, true, false}
use mathlib.Core.Logic.{dite}
use Prim.Native.Nat.{ℕ, zero, suc, ◌+◌, ◌<◌}
use native.Mathlib.Decide.{ℕ_discrete}
use native.Mathlib.Omega.{arith}
use Rattle.laws.specs.Sum.{sum, when}
use Rattle.laws.specs.Rank.{rank}
use Rattle.laws.proofs.Sum.{sum_more}

one_if : (g : ℕ → ℕ) (r : ℕ) (b : Bool) → sum g (r + when b 1) ≡ sum g r + when b (g r)
one_if g r true = sum_more g r
one_if g r false = let e : r + 0 ≡ r = omega arith in rw e (omega arith)

module _ (t : ℕ → Bool) where
  pub rank_none : rank t 0 ≡ 0
  unfolding rank sum
  rank_none = refl

  pub rank_in : (i : ℕ) → t i ≡ true → rank t (i + 1) ≡ rank t i + 1
  unfolding rank
  rank_in i e = sum_more (λ j. when (t j) 1) i ∙ rw e

  pub rank_out : (i : ℕ) → t i ≡ false → rank t (i + 1) ≡ rank t i
  unfolding rank
  rank_out i e = sum_more (λ j. when (t j) 1) i ∙ rw e (omega arith)

  -- a number that is picked stands in front of the next one picked
  pub rank_less : (i n : ℕ) → i < n → t i ≡ true → rank t i < rank t n
  unfolding rank sum
  rank_less i zero l e = absurd (omega arith)
  rank_less i (suc n) l e =
      dite (ℕ_discrete n i) (λ q. omega (arith, ap (rank t) q, ap (λ (b : Bool). when b 1) (ap t q ∙ e)))
      (λ ne. omega (arith, rank_less i n (omega arith) e))

  -- a sum over the picked numbers goes by rank
  pub sum_rank : (g : ℕ → ℕ) (n : ℕ) → sum (λ i. when (t i) (g (rank t i))) n ≡ sum g (rank t n)
  unfolding rank sum
  sum_rank g zero = refl
  sum_rank g (suc n) = omega (arith, sum_rank g n, one_if g (rank t n) (t n))
