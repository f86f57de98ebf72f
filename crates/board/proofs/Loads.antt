-- Loads add up to the degree, totals to the number of nets, degrees to the number of net ends; and what bounds each of them.
-- Assumes nothing.
use mathlib.Core.Path.{◌≡◌, refl, ◌∙◌}
use Prim.Native.Nat.{ℕ, ◌+◌, ◌*◌, ◌≤◌}
use native.Mathlib.Omega.{arith}
use lib.Dec.{eqb}
use Rattle.laws.specs.Sum.{sum, when}
use Rattle.laws.proofs.Sum.{sum_same, sum_add, sum_le, sum_ones, shares_add, shares_at_most, when_at_most}
use Rattle.board.specs.Netlist.{Netlist}
use Rattle.board.specs.Board.{ends_at, degree, load, total, InRange}

module _ (J : Netlist) where
  ones : sum (λ _. 1) J.n ≡ J.n
  ones = sum_ones (λ _. 1) J.n (λ _ _. refl)

  module _ (a : ℕ → ℕ) where
    pub loads_add : InRange J a → (v : ℕ) → sum (load J a v) J.c ≡ degree J v
    unfolding load degree
    loads_add h v = shares_add a (ends_at J v) J.c J.n h

    pub load_at_most_degree : (v x : ℕ) → load J a v x ≤ degree J v
    unfolding load degree
    load_at_most_degree v x = sum_le (λ i. when (eqb (a i) x) (ends_at J v i)) (ends_at J v) J.n (λ i l. when_at_most (eqb (a i) x) (ends_at J v i))

    pub total_at_most : (x : ℕ) → total J a x ≤ J.n
    unfolding total
    total_at_most x = omega (arith, ones, sum_le (λ i. when (eqb (a i) x) 1) (λ _. 1) J.n (λ i l. when_at_most (eqb (a i) x) 1))

  -- the degrees count each end of each net
  by_ends : sum (degree J) J.f ≡ sum (λ v. sum (λ i. when (eqb (J.first i) v) 1) J.n) J.f + sum (λ v. sum (λ i. when (eqb (J.second i) v) 1) J.n) J.f
  unfolding degree ends_at
  by_ends =
      sum_same (λ v. sum (λ i. when (eqb (J.first i) v) 1 + when (eqb (J.second i) v) 1) J.n)
      (λ v. sum (λ i. when (eqb (J.first i) v) 1) J.n + sum (λ i. when (eqb (J.second i) v) 1) J.n) J.f
      (λ v l. sum_add (λ i. when (eqb (J.first i) v) 1) (λ i. when (eqb (J.second i) v) 1) J.n)
      ∙ sum_add (λ v. sum (λ i. when (eqb (J.first i) v) 1) J.n) (λ v. sum (λ i. when (eqb (J.second i) v) 1) J.n) J.f

  pub degrees_at_most : sum (degree J) J.f ≤ 2 * J.n
  degrees_at_most = omega (arith, by_ends, ones, shares_at_most J.first (λ _. 1) J.f J.n, shares_at_most J.second (λ _. 1) J.f J.n)
