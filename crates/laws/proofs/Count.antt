-- Counters, filled by a walk: item i adds g v i to counter v.
-- Assumes nothing.
use mathlib.Core.Path.{◌≡◌, ap, sym, ◌∙◌}
use mathlib.Core.List.{List}
use mathlib.Core.Logic.{dite}
use Prim.Native.Nat.{ℕ, ◌+◌, ◌≤◌, ◌<◌}
use native.Mathlib.Decide.{ℕ_discrete}
use native.Mathlib.Omega.{arith}
use lib.Dec.{eqb}
use lib.ListN.{length, set, replicate, length-set, length-replicate, get_or-replicate}
use lib.Seq.{get_or-set_same, get_or-set_other}
use Rattle.laws.specs.Sum.{sum, when}
use Rattle.laws.specs.Row.{at}
use Rattle.laws.specs.Count.{Counted}
use Rattle.laws.proofs.Sum.{sum_more, when_here, when_else, when_at_most}

-- the counters with one more at v
abbrev pub bump : List ℕ → ℕ → List ℕ
bump l v = set l v (at l v + 1)

pub bump_at : (l : List ℕ) (v u : ℕ) → v < length l → at (bump l v) u ≡ at l u + when (eqb v u) 1
bump_at l v u h =
    dite (ℕ_discrete v u)
    (λ e. let s = get_or-set_same l v (at l v + 1) 0 h in omega (arith, s, ap (at (bump l v)) e, ap (at l) e, when_here v 1 u e))
    (λ ne. omega (arith, get_or-set_other l v u (at l v + 1) 0 (λ q. ne (sym q)), when_else v 1 u ne))

pub bump_at_most : (l : List ℕ) (v u : ℕ) → v < length l → at (bump l v) u ≤ at l u + 1
bump_at_most l v u h = omega (arith, bump_at l v u h, when_at_most (eqb v u) 1)

pub counted_same : {l : List ℕ} {n : ℕ} (g h : ℕ → ℕ) → ((v : ℕ) → v < n → g v ≡ h v) → Counted l n g → Counted l n h
counted_same g h e c = record { long = c.long; count = λ v q. c.count v q ∙ e v q }

pub counted_bump : {l : List ℕ} {n : ℕ} (g : ℕ → ℕ) (v : ℕ) → v < n → Counted l n g → Counted (bump l v) n (λ u. g u + when (eqb v u) 1)
counted_bump {l} {n} g v h c =
    record {
      long = length-set l v (at l v + 1) ∙ c.long;
      count = λ u q. omega (arith, bump_at l v u (omega (arith, c.long)), c.count u q);
    }

module _ (g : ℕ → ℕ → ℕ) (n : ℕ) where
  -- how the counters stand after i items
  abbrev pub Walked : List ℕ → ℕ → Type 0
  Walked l i = Counted l n (λ v. sum (g v) i)

  pub walk_starts : Walked (replicate n 0) 0
  unfolding sum
  walk_starts = record { long = length-replicate {A = ℕ} n 0; count = λ v h. get_or-replicate n v 0 0 h }

  module _ {l : List ℕ} (i : ℕ) (c : Walked l i) where
    -- the next item counts nowhere, at v, at v and w
    pub walk_passes : ((u : ℕ) → u < n → g u i ≡ 0) → Walked l (i + 1)
    walk_passes e = counted_same (λ u. sum (g u) i) (λ u. sum (g u) (i + 1)) (λ u q. omega (arith, sum_more (g u) i, e u q)) c

    pub walk_counts : (v : ℕ) → v < n → ((u : ℕ) → u < n → g u i ≡ when (eqb v u) 1) → Walked (bump l v) (i + 1)
    walk_counts v h e =
        counted_same (λ u. sum (g u) i + when (eqb v u) 1) (λ u. sum (g u) (i + 1)) (λ u q. omega (arith, sum_more (g u) i, e u q))
        (counted_bump (λ u. sum (g u) i) v h c)

    pub walk_counts_two : (v w : ℕ) → v < n → w < n → ((u : ℕ) → u < n → g u i ≡ when (eqb v u) 1 + when (eqb w u) 1) → Walked (bump (bump l v) w) (i + 1)
    walk_counts_two v w h k e =
        counted_same (λ u. sum (g u) i + when (eqb v u) 1 + when (eqb w u) 1) (λ u. sum (g u) (i + 1)) (λ u q. omega (arith, sum_more (g u) i, e u q))
        (counted_bump (λ u. sum (g u) i + when (eqb v u) 1) w k (counted_bump (λ u. sum (g u) i) v h c))
