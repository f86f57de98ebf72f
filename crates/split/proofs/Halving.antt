-- `split`: the nets are directed and labelled, and the labels halve the nets as they stood before.
-- Assumes nothing.
use mathlib.Core.Path.{◌≡◌, sym, ap, ◌∙◌}
use mathlib.Core.List.{List, ◌++◌}
use mathlib.Core.Logic.{⊎_elim}
use Prim.Native.Nat.{ℕ, ◌+◌, ◌≤◌, ◌<◌}
use native.Mathlib.Omega.{arith}
use lib.ListN.{length, get_or, take, drop, length-drop, length-append, get_or-append}
use lib.Seq.{length-take-le, get_or-take, get_or-drop}
use Rattle.laws.specs.Sum.{sum}
use Rattle.laws.specs.Row.{at}
use Rattle.laws.specs.Matching.{is}
use Rattle.laws.proofs.Sum.{sum_same}
use Rattle.laws.proofs.Cases.{by_half}
use Rattle.laws.proofs.Matching.{is_same}
use Rattle.scratch.specs.Scratch.{region}
use Rattle.pair.specs.Pair.{fpga_count, Near, count}
use Rattle.pair.proofs.Counting.{near_same}
use Rattle.split.specs.Split.{NetsIn, HalvesNets, Halved, SameEnds, first_end, second_end, label_of}
use Rattle.split.specs.Stages.{Oriented, DirectedNets, Coloured}
use Rattle.split.proofs.Balance.{both, swap_ends, swap_load, rule}
use Rattle.split.proofs.Parting.{front_long, back_long, back_front, back_at, joined_ends, joined_labels, joined_beyond}

-- the part of the ends before and after they are directed; the first ends, and the second
module _ (s : List ℕ) (k : ℕ) (g : NetsIn s k) (part ends : List ℕ) (part_long : length part ≡ region) (reads : (i d : ℕ) → i < region → get_or part i d ≡ get_or s i d)
    (same : length ends ≡ length (take (k + k) part)) (o : Oriented (take (k + k) part) ends k)
    (first second : List ℕ) (ef : first ≡ take k (take (k + k) (ends ++ drop (k + k) part))) (es : second ≡ drop k (take (k + k) (ends ++ drop (k + k) part))) where
  fits : k + k ≤ length part
  fits = omega (arith, g.small)

  long : length ends ≡ k + k
  long = front_long part ends (k + k) same fits

  before : (i : ℕ) → i < k + k → get_or (take (k + k) part) i 0 ≡ get_or s i 0
  before i l = get_or-take (k + k) part i 0 l ∙ reads i 0 (omega (arith, g.small))

  first_is : first ≡ take k ends
  first_is = ef ∙ ap (take k) (back_front part ends (k + k) same fits)

  second_is : second ≡ drop k ends
  second_is = es ∙ ap (drop k) (back_front part ends (k + k) same fits)

  same_ends : (e : ℕ) → e < k → SameEnds s ends k e
  same_ends e l = rw (sym (before e (omega arith)), sym (before (k + e) (omega arith))) (o.same_ends e l)

  known : (i : ℕ) → i < k + k → get_or ends i 0 < fpga_count
  known =
      by_half (λ i. get_or ends i 0 < fpga_count) k
      (λ e l. ⊎_elim (λ z. omega (arith, z.0, g.known e (omega arith))) (λ z. omega (arith, z.0, g.known (k + e) (omega arith))) (same_ends e l))
      (λ e l. ⊎_elim (λ z. omega (arith, z.1, g.known (k + e) (omega arith))) (λ z. omega (arith, z.1, g.known e (omega arith))) (same_ends e l))

  first_long : length first ≡ k
  first_long = rw first_is (length-take-le k ends (omega (arith, long)))

  second_long : length second ≡ k
  second_long = rw second_is (omega (arith, long, length-drop k ends))

  first_at : (e : ℕ) → e < k → at first e ≡ first_end ends e
  first_at e l = rw first_is (get_or-take k ends e 0 l)

  second_at : (e : ℕ) → e < k → at second e ≡ second_end ends k e
  second_at e l = rw second_is (get_or-drop k ends e 0)

  pub colour_asked : (out into labels : List ℕ) → length out ≡ k → length into ≡ k → length labels ≡ k → DirectedNets first second out into labels
  colour_asked out into labels lo li ll =
      record {
        leaving = record {
          items = record {
            small = omega (arith, g.small, first_long);
            even = rw first_long g.even;
            known = λ e l. let l' : e < k = omega (arith, first_long) in rw (first_at e l') (known e (omega arith));
          };
          long = omega (arith, first_long);
        };
        entering = record {
          items = record {
            small = omega (arith, g.small, second_long);
            even = rw second_long g.even;
            known = λ e l. let l' : e < k = omega (arith, second_long) in rw (second_at e l') (known (k + e) (omega arith));
          };
          long = omega (arith, second_long);
        };
        second_long = omega (arith, first_long, second_long);
        labels_long = omega (arith, first_long);
      }

  -- the four parts in the end: the ends, two that nobody reads, and the labels
  module _ (mates others labels : List ℕ) (c : Coloured first second labels) (mates_long : length mates ≡ region) (others_long : length others ≡ region)
      (tail : List ℕ) (labels_long : length labels ≡ k) where
    abbrev s' : List ℕ
    s' = (ends ++ drop (k + k) part) ++ (mates ++ (others ++ (labels ++ tail)))

    ends_long : length (ends ++ drop (k + k) part) ≡ region
    ends_long = back_long part ends (k + k) same fits ∙ part_long

    after : (i : ℕ) → i < k + k → get_or s' i 0 ≡ get_or ends i 0
    after i l = joined_ends _ mates others _ ends_long mates_long others_long i (omega (arith, g.small)) ∙ back_at part ends (k + k) same fits i l

    labelled : (e : ℕ) → e < k → label_of s' e ≡ at labels e
    labelled e l = joined_labels _ mates others _ ends_long mates_long others_long e ∙ get_or-append labels tail 0 e (omega arith)

    abbrev x : ℕ → ℕ
    x = label_of s'

    binary : (e : ℕ) → e < k → x e ≤ 1
    binary e l = rw (labelled e l) (c.binary e (omega (arith, first_long)))

    level : sum (is x 0) k ≡ sum (is x 1) k
    level = alike 0 ∙ (rw first_long at c.level) ∙ sym (alike 1)
      where
        alike : (b : ℕ) → sum (is x b) k ≡ sum (is (at labels) b) k
        alike b = sum_same (is x b) (is (at labels) b) k (λ e l. is_same x (at labels) b e (labelled e l))

    out : (v : ℕ) → v < fpga_count → Near (count (first_end ends) x v 0 k) (count (first_end ends) x v 1 k)
    out v l = near_same (at first) (first_end ends) (at labels) x k first_at (λ e q. sym (labelled e q)) v (rw first_long at (c.out v l))

    into : (v : ℕ) → v < fpga_count → Near (count (second_end ends k) x v 0 k) (count (second_end ends k) x v 1 k)
    into v l = near_same (at second) (second_end ends k) (at labels) x k second_at (λ e q. sym (labelled e q)) v (rw first_long at (c.into v l))

    halves : HalvesNets (first_end s) (second_end s k) x k
    halves =
        record {
          binary = binary;
          level = level;
          at_each_fpga = λ v l.
              rw (
                swap_load (first_end s) (second_end s k) (first_end ends) (second_end ends k) k same_ends v x 0,
                swap_load (first_end s) (second_end s k) (first_end ends) (second_end ends k) k same_ends v x 1,
              )
              (rule _ _ _ _ _ _ _ (swap_ends (first_end s) (second_end s k) (first_end ends) (second_end ends k) k same_ends v)
              (both (first_end ends) x v k binary) (both (second_end ends k) x v k binary) (o.fair v l) (out v l) (into v l));
        }

    -- the parts as they were
    pub halved : (r m₀ r' others₀ labels₀ : List ℕ) → s ≡ part ++ r → r ≡ m₀ ++ r' → r' ≡ others₀ ++ labels₀ → length m₀ ≡ region → length others₀ ≡ region
        → length (labels ++ tail) ≡ length labels₀ → drop region (labels ++ tail) ≡ drop region labels₀ → Halved s s' k
    halved r m r' n l e₁ e₂ e₃ lm ln ll el =
        let es : s ≡ part ++ (m ++ (n ++ l)) = rw (e₁, e₂, e₃) in
        record {
          long = rw es (simp length-append (omega (arith, length-append {A = ℕ}, ll, ends_long)));
          beyond = joined_beyond _ mates others _ ends_long mates_long others_long ∙ el ∙ rw es (sym (joined_beyond part m n l part_long lm ln));
          same_ends = λ e q. rw (after e (omega arith), after (k + e) (omega arith)) (same_ends e q);
          halves = halves;
        }
