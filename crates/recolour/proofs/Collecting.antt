-- Collecting the nets on two crossbars: one net that is taken, and one that is not.
-- Assumes nothing.
use mathlib.Core.Path.{◌≡◌, refl, ap, sym, subst, ◌∙◌}
use mathlib.Core.Bool.{Bool, true, false, false≢true}
use mathlib.Core.Logic.{◌≢◌}
use mathlib.Core.List.{List}
use Prim.Native.Nat.{ℕ, zero, suc, ◌+◌, ◌≤◌, ◌<◌}
use native.Mathlib.Omega.{arith}
use lib.ListN.{length, take, drop, set, length-set}
use Rattle.std.specs.List.{count_by}
use Rattle.std.proofs.lemmas.List.Sums.{count_by_more_yes, count_by_more_no}
use Rattle.std.proofs.Common.{add-one}
use lib.Seq.{get_or-set_same, get_or-set_other, drop-set-lt}
use borrow.Author.Count.{below_more}
use Rattle.laws.proofs.Cases.{by_test}
use Rattle.laws.proofs.Rank.{rank_none, rank_in, rank_out, rank_less}
use Rattle.board.specs.Rule.{on_two_test}
use Rattle.job.specs.Job.{first_in, second_in}
use Rattle.job.specs.declared.Job.{Job}
use Rattle.job.specs.Check.{Joins}
use Rattle.scratch.specs.Scratch.{scratch_long}
use Rattle.split.specs.Split.{first_end, second_end}
use Rattle.recolour.specs.Steps.{taken, place, CountedOn, nowhere, with_ends, Places, RoomFor, Collected}

-- the ends of one more net
module _ (s : List ℕ) (k e v w : ℕ) (p : Places s k e) where
  pub ends_here : (first_end (with_ends s k e v w) e ≡ v) × (second_end (with_ends s k e v w) k e ≡ w)
  ends_here = (
    get_or-set_other (set s e v) (k + e) e w 0 (omega (arith, p.one_of)) ∙ get_or-set_same s e v 0 (omega (arith, p.one_of, p.all)),
    get_or-set_same (set s e v) (k + e) w 0 (simp length-set (omega (arith, p.one_of, p.all))),
  )

  pub ends_else : (d : ℕ) → d < k → d ≢ e
      → (first_end (with_ends s k e v w) d ≡ first_end s d) × (second_end (with_ends s k e v w) k d ≡ second_end s k d)
  ends_else d l ne = (
    get_or-set_other (set s e v) (k + e) d w 0 (omega arith) ∙ get_or-set_other s e d v 0 ne,
    get_or-set_other (set s e v) (k + e) (k + d) w 0 (omega arith) ∙ get_or-set_other s e (k + d) v 0 (omega arith),
  )

  pub ends_long : length (with_ends s k e v w) ≡ length s
  ends_long = length-set (set s e v) (k + e) w ∙ length-set s e v

  pub ends_beyond : (n : ℕ) → k + k ≤ n → drop n (with_ends s k e v w) ≡ drop n s
  ends_beyond n h = drop-set-lt n (set s e v) (k + e) w (omega arith) ∙ drop-set-lt n s e v (omega arith)

-- counting the nets that are taken
module _ (plan : List ℕ) (x y : ℕ) where
  pub count_none : CountedOn plan x y 0 0
  count_none = record { is = sym (rank_none (taken plan x y)); at_most = omega arith }

  module _ (i e : ℕ) (c : CountedOn plan x y i e) (r : Bool) (on : r ≡ taken plan x y i) where
    pub count_more : r ≡ true → CountedOn plan x y (i + 1) (e + 1)
    count_more t = record { is = ap (λ (d : ℕ). d + 1) c.is ∙ sym (rank_in (taken plan x y) i (sym on ∙ t)); at_most = omega (arith, c.at_most) }

    pub count_skip : r ≡ false → CountedOn plan x y (i + 1) e
    count_skip f = record { is = c.is ∙ sym (rank_out (taken plan x y) i (sym on ∙ f)); at_most = omega (arith, c.at_most) }

  -- as a count over the list
  pub count_first : (n : ℕ) → n ≤ length plan → CountedOn plan x y n (count_by (on_two_test x y) (take n plan))
  count_first zero l = count_none
  count_first (suc n) l =
      let before = count_first n (omega arith) in
      by_test (taken plan x y n)
      (λ t. let e = count_by_more_yes (on_two_test x y) plan n 0 (omega arith) t in rw (← add-one n, e) (count_more n _ before true (sym t) refl))
      (λ f. let e = count_by_more_no (on_two_test x y) plan n 0 (omega arith) f in rw (← add-one n, e) (count_skip n _ before false (sym f) refl))

  -- a net that is taken has its place in front of those behind it
  pub place_less : (i e j : ℕ) → CountedOn plan x y i e → j < i → taken plan x y j ≡ true → place plan x y j < e
  place_less i e j c l t = omega (arith, c.is, rank_less (taken plan x y) j i l t)

module _ (job : Job) (plan : List ℕ) (x y : ℕ) (s₀ : List ℕ) (k : ℕ) (room : RoomFor job plan x y s₀ k) where
  pub collect_none : Collected job plan x y k s₀ s₀ 0 0
  collect_none =
      record {
        counted = count_none plan x y;
        first = λ j l. absurd (omega arith);
        second = λ j l. absurd (omega arith);
        known = λ d l. absurd (omega arith);
        long = refl;
        beyond = refl;
      }

  module _ (s : List ℕ) (i e : ℕ) (c : Collected job plan x y k s₀ s i e) (l : i < job.head.n) (r : Bool) (on : r ≡ taken plan x y i) where
    pub collect_skip : r ≡ false → Collected job plan x y k s₀ s (i + 1) e
    collect_skip f =
        record {
          counted = count_skip plan x y i e c.counted r on f;
          first = below_more (λ j. taken plan x y j ≡ true → first_end s (place plan x y j) ≡ first_in job.bytes.now j) i c.first (λ t. absurd (false≢true (sym f ∙ on ∙ t)));
          second = below_more (λ j. taken plan x y j ≡ true → second_end s k (place plan x y j) ≡ second_in job.bytes.now j) i c.second (λ t. absurd (false≢true (sym f ∙ on ∙ t)));
          known = c.known;
          long = c.long;
          beyond = c.beyond;
        }

    pub in_room : r ≡ true → Places s k e
    in_room t =
        record {
          one_of = omega (arith, c.counted.is, room.enough, rank_less (taken plan x y) i job.head.n l (sym on ∙ t));
          all = omega (arith, c.long, room.scratch, room.small);
        }

    pub collect_more : r ≡ true → (v w : ℕ) → v ≡ first_in job.bytes.now i → w ≡ second_in job.bytes.now i → (s' : List ℕ) → s' ≡ with_ends s k e v w
        → Collected job plan x y k s₀ s' (i + 1) (e + 1)
    collect_more t v w ev ew s' eq = rw eq go
      where
        new : List ℕ
        new = with_ends s k e v w

        here : (first_end new e ≡ v) × (second_end new k e ≡ w)
        here = ends_here s k e v w (in_room t)

        still : (d : ℕ) → d < e → (first_end new d ≡ first_end s d) × (second_end new k d ≡ second_end s k d)
        still d q = ends_else s k e v w (in_room t) d (omega (arith, (in_room t).one_of)) (omega arith)

        before : (j : ℕ) → j < i → taken plan x y j ≡ true → place plan x y j < e
        before j q p = place_less plan x y i e j c.counted q p

        joins : Joins job.head.f (first_in job.bytes.now i) (second_in job.bytes.now i)
        joins = job.well_formed.nets i l

        go : Collected job plan x y k s₀ new (i + 1) (e + 1)
        go =
            record {
              counted = count_more plan x y i e c.counted r on t;
              first = below_more (λ j. taken plan x y j ≡ true → first_end new (place plan x y j) ≡ first_in job.bytes.now j) i
                  (λ j q p. (still (place plan x y j) (before j q p)).0 ∙ c.first j q p)
                  (λ p. ap (first_end new) (sym c.counted.is) ∙ here.0 ∙ ev);
              second = below_more (λ j. taken plan x y j ≡ true → second_end new k (place plan x y j) ≡ second_in job.bytes.now j) i
                  (λ j q p. (still (place plan x y j) (before j q p)).1 ∙ c.second j q p)
                  (λ p. ap (second_end new k) (sym c.counted.is) ∙ here.1 ∙ ew);
              known = below_more (λ d. (first_end new d < nowhere) × (second_end new k d < nowhere)) e
                  (λ d q. (omega (arith, (still d q).0, (c.known d q).0), omega (arith, (still d q).1, (c.known d q).1)))
                  (omega (arith, here.0, ev, joins.first_below, job.well_formed.ranged.f_high), omega (arith, here.1, ew, joins.second_below, job.well_formed.ranged.f_high));
              long = ends_long s k e v w (in_room t) ∙ c.long;
              beyond = ends_beyond s k e v w (in_room t) scratch_long (omega (arith, room.small)) ∙ c.beyond;
            }

  pub collect_all : (s : List ℕ) (i e : ℕ) → Collected job plan x y k s₀ s i e → i ≤ job.head.n → job.head.n ≤ i
      → Collected job plan x y k s₀ s job.head.n (place plan x y job.head.n)
  collect_all s i e c l g =
      let q : i ≡ job.head.n = omega arith in
      subst (λ (d : ℕ). Collected job plan x y k s₀ s job.head.n d) (rw q at c.counted.is) (rw q at c)
