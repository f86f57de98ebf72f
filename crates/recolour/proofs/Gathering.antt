-- The nets that are collected, with a dummy behind them where their number is odd, are what `split` asks for.
-- Assumes nothing.
use mathlib.Core.Path.{◌≡◌, ap, sym, subst, ◌∙◌}
use mathlib.Core.Bool.{true}
use mathlib.Core.List.{List}
use Prim.Native.Nat.{ℕ, ◌≤◌, ◌<◌}
use native.Mathlib.Omega.{arith}
use lib.ListN.{get_or}
use Rattle.laws.proofs.Cases.{by_same, by_half}
use Rattle.job.specs.declared.Job.{Job}
use Rattle.scratch.specs.Scratch.{most_nets, scratch_long}
use Rattle.pair.specs.Pair.{fpga_count}
use Rattle.split.specs.Split.{first_end, second_end, NetsIn}
use Rattle.recolour.specs.Recolour.{RecolourAsked}
use Rattle.recolour.specs.Steps.{taken, place, CountedOn, evened, nowhere, with_ends, Places, Collected, CollectedAll}
use Rattle.recolour.proofs.Collecting.{place_less, ends_here, ends_else, ends_long, ends_beyond}

module _ (job : Job) (plan : List ℕ) (x y : ℕ) (s₀ : List ℕ) (asked : RecolourAsked job plan x y s₀) (count : ℕ) (c : CountedOn plan x y job.head.n count) where
  small : evened count ≤ most_nets
  small = omega (arith, c.at_most, job.well_formed.ranged.n_high)

  -- all but one at the most are nets of the board
  nets_of : (s : List ℕ) → Collected job plan x y (evened count) s₀ s job.head.n count
      → (count < evened count → (first_end s count ≡ nowhere) × (second_end s (evened count) count ≡ nowhere)) → NetsIn s (evened count)
  nets_of s g d =
      record {
        long = omega (arith, g.long, asked.scratch);
        small = small;
        even = omega arith;
        known = by_half (λ i. get_or s i 0 < fpga_count) (evened count)
            (λ e l. by_same e count (λ q. omega (arith, ap (first_end s) q, (d (omega arith)).0)) (λ ne. omega (arith, (g.known e (omega arith)).0)))
            (λ e l. by_same e count (λ q. omega (arith, ap (second_end s (evened count)) q, (d (omega arith)).1)) (λ ne. omega (arith, (g.known e (omega arith)).1)));
      }

  module _ (k : ℕ) (ek : k ≡ evened count) (s : List ℕ) (g : Collected job plan x y k s₀ s job.head.n (place plan x y job.head.n)) where
    collected : Collected job plan x y (evened count) s₀ s job.head.n count
    collected =
        subst (λ (j : ℕ). Collected job plan x y j s₀ s job.head.n count) ek
        (subst (λ (d : ℕ). Collected job plan x y k s₀ s job.head.n d) (sym c.is) g)

    pub gathered_even : k ≤ count → CollectedAll job plan x y s₀ s count
    gathered_even q =
        let none : count < evened count → ⊥ = λ l. omega arith in
        record { collected = collected; nets = nets_of s collected (λ l. absurd (none l)); dummy = λ l. absurd (none l) }

    pub dummy_fits : count < k → Places s k count
    dummy_fits lt = record { one_of = omega arith; all = omega (arith, g.long, asked.scratch, small) }

    pub gathered_odd : count < k → (s' : List ℕ) → s' ≡ with_ends s k count nowhere nowhere → CollectedAll job plan x y s₀ s' count
    gathered_odd lt s' eq = rw (eq, ek) go
      where
        new : List ℕ
        new = with_ends s (evened count) count nowhere nowhere

        places : Places s (evened count) count
        places = rw ek at (dummy_fits lt)

        dummy : (first_end new count ≡ nowhere) × (second_end new (evened count) count ≡ nowhere)
        dummy = ends_here s (evened count) count nowhere nowhere places

        still : (d : ℕ) → d < count → (first_end new d ≡ first_end s d) × (second_end new (evened count) d ≡ second_end s (evened count) d)
        still d l = ends_else s (evened count) count nowhere nowhere places d (omega (arith, places.one_of)) (omega arith)

        before : (j : ℕ) → j < job.head.n → taken plan x y j ≡ true → place plan x y j < count
        before j l t = place_less plan x y job.head.n count j c l t

        kept : Collected job plan x y (evened count) s₀ new job.head.n count
        kept =
            record {
              counted = c;
              first = λ j l t. (still (place plan x y j) (before j l t)).0 ∙ collected.first j l t;
              second = λ j l t. (still (place plan x y j) (before j l t)).1 ∙ collected.second j l t;
              known = λ d l. (omega (arith, (still d l).0, (collected.known d l).0), omega (arith, (still d l).1, (collected.known d l).1));
              long = ends_long s (evened count) count nowhere nowhere places ∙ g.long;
              beyond = ends_beyond s (evened count) count nowhere nowhere places scratch_long (omega (arith, small)) ∙ g.beyond;
            }

        go : CollectedAll job plan x y s₀ new count
        go = record { collected = kept; nets = nets_of new kept (λ l. dummy); dummy = λ l. dummy }
