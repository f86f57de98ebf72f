-- `orient`: the ends are paired by FPGA and by net, labelled out or in, and swapped where the first end is in.
-- Assumes nothing.
use mathlib.Core.Path.{◌≡◌, ap, ◌∙◌}
use mathlib.Core.List.{List}
use mathlib.Core.Logic.{inl, inr}
use Prim.Native.Nat.{ℕ, ◌+◌, ◌<◌}
use native.Mathlib.Omega.{arith}
use lib.ListN.{length}
use Rattle.laws.specs.Row.{at}
use Rattle.laws.specs.Matching.{Perfect, Alternates}
use Rattle.laws.proofs.Cases.{by_same, by_half}
use Rattle.pair.specs.Pair.{fpga_count, Near, count, Pairing}
use Rattle.walk.specs.Walk.{Matched, Alternated}
use Rattle.split.specs.Split.{first_end, second_end}
use Rattle.split.specs.Stages.{Flipped, Directed, Oriented}
use Rattle.split.proofs.Balance.{labelled}

-- the other ends are a pairing
flip_perfect : (f : List ℕ) (k : ℕ) → Flipped f k k → Perfect (k + k) (at f)
flip_perfect f k h =
    record {
      below = by_half (λ i. at f i < k + k) k (λ i q. omega (arith, h.low i q)) (λ j q. omega (arith, h.high j q));
      moves = by_half (λ i. at f i ≡ i → ⊥) k (λ i q e. omega (arith, h.low i q)) (λ j q e. omega (arith, h.high j q));
      back = by_half (λ i. at f (at f i) ≡ i) k (λ i q. ap (at f) (h.low i q) ∙ h.high i q) (λ j q. ap (at f) (h.high j q) ∙ h.low j q);
    }

module _ (ends₀ f m : List ℕ) (k : ℕ) (long : length ends₀ ≡ k + k) (fl : Flipped f k k) (p : Pairing ends₀ m) where
  pub ends_matched : (x : List ℕ) → length x ≡ k + k → Matched m f x
  ends_matched x lx =
      record {
        q_long = omega (arith, fl.long, p.long);
        long = omega (arith, p.long);
        on_p = rw p.long p.paired.perfect;
        on_q = rw (p.long, long) (flip_perfect f k fl);
      }

  module _ (x : List ℕ) (a : Alternated m f x) (ends : List ℕ) (d : Directed ends₀ ends x k k) where
    abbrev y : ℕ → ℕ
    y = at x

    on_mates : Alternates (length ends₀) (at m) y
    on_mates = rw p.long at a.on_p

    on_flip : (e : ℕ) → e < k → y e + y (k + e) ≡ 1
    on_flip e l = rw (fl.low e l) at (a.on_q e (omega (arith, p.long)))

    still : (e : ℕ) → e < k → y e ≡ 0 → (first_end ends e ≡ first_end ends₀ e) × (second_end ends k e ≡ second_end ends₀ k e)
    still e l z = d.still e l (λ q r. omega arith)

    -- the ends of one label at an FPGA are as many as those of the other, but for one
    even : (v : ℕ) → v < fpga_count → Near (count (first_end ends₀) y v 0 (k + k)) (count (first_end ends₀) y v 1 (k + k))
    even v l = rw long at (p.paired.fair y on_mates v l)

    pub oriented : Oriented ends₀ ends k
    oriented =
        record {
          same_ends = λ e l. by_same (y e) 0 (λ z. inl (still e l z)) (λ z. inr (d.turned e l (omega (arith, on_flip e l))));
          fair = λ v l.
              omega (
                arith,
                even v l,
                labelled (first_end ends₀) (first_end ends) y k 0 (omega arith) on_flip (λ e q z. (still e q z).0) (λ e q z. (d.turned e q (omega (arith, on_flip e q))).0) v,
                labelled (first_end ends₀) (second_end ends k) y k 1 (omega arith) on_flip (λ e q z. (d.turned e q z).1) (λ e q z. (still e q (omega (arith, on_flip e q))).1) v,
              );
        }
