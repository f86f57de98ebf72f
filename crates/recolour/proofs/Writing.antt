-- Writing the labels back: one net that is on x or y, and one that is not.
-- Assumes nothing.
use mathlib.Core.Path.{◌≡◌, refl, ap, sym, ◌∙◌}
use mathlib.Core.Bool.{Bool, true, false, false≢true}
use mathlib.Core.List.{List}
use Prim.Native.Nat.{ℕ, ◌+◌, ◌≤◌, ◌<◌}
use native.Mathlib.Omega.{arith}
use lib.ListN.{length, set, length-set}
use lib.Seq.{get_or-set_same, get_or-set_other, drop-set-lt}
use borrow.Author.Count.{below_more}
use Rattle.laws.specs.Row.{at}
use Rattle.board.specs.Rule.{on_two_test}
use Rattle.split.specs.Split.{label_of}
use Rattle.recolour.specs.Steps.{taken, place, crossbar_by, WrittenBack}
use Rattle.recolour.proofs.Collecting.{count_none, count_more, count_skip}

module _ (plan₀ : List ℕ) (n x y : ℕ) (s : List ℕ) (mark : ℕ) (every_net : n ≤ length plan₀) where
  pub write_none : WrittenBack plan₀ plan₀ n x y s mark 0 0
  write_none =
      record {
        counted = count_none plan₀ x y;
        put = λ j l. absurd (omega arith);
        stay = λ j l. absurd (omega arith);
        ahead = λ j l. refl;
        long = refl;
        beyond = refl;
      }

  module _ (plan : List ℕ) (i e : ℕ) (c : WrittenBack plan₀ plan n x y s mark i e) (l : i < n) (r : Bool) (now : r ≡ on_two_test x y (at plan i)) where
    -- the walk has not changed net i yet
    on : r ≡ taken plan₀ x y i
    on = now ∙ ap (on_two_test x y) (c.ahead i (omega arith))

    pub write_skip : r ≡ false → WrittenBack plan₀ plan n x y s mark (i + 1) e
    write_skip f =
        record {
          counted = count_skip plan₀ x y i e c.counted r on f;
          put = below_more (λ j. taken plan₀ x y j ≡ true → at plan j ≡ crossbar_by x y mark (label_of s (place plan₀ x y j))) i c.put (λ t. absurd (false≢true (sym f ∙ on ∙ t)));
          stay = below_more (λ j. taken plan₀ x y j ≡ false → at plan j ≡ at plan₀ j) i c.stay (λ _. c.ahead i (omega arith));
          ahead = λ j q. c.ahead j (omega arith);
          long = c.long;
          beyond = c.beyond;
        }

    pub write_more : r ≡ true → (z : ℕ) → z ≡ crossbar_by x y mark (label_of s e) → WrittenBack plan₀ (set plan i z) n x y s mark (i + 1) (e + 1)
    write_more t z ez =
        record {
          counted = count_more plan₀ x y i e c.counted r on t;
          put = below_more (λ j. taken plan₀ x y j ≡ true → at new j ≡ crossbar_by x y mark (label_of s (place plan₀ x y j))) i
              (λ j q p. other j (omega arith) ∙ c.put j q p)
              (λ p. get_or-set_same plan i z 0 (omega (arith, c.long, every_net)) ∙ ez ∙ ap (λ (d : ℕ). crossbar_by x y mark (label_of s d)) c.counted.is);
          stay = below_more (λ j. taken plan₀ x y j ≡ false → at new j ≡ at plan₀ j) i (λ j q p. other j (omega arith) ∙ c.stay j q p) (λ p. absurd (false≢true (sym p ∙ sym on ∙ t)));
          ahead = λ j q. other j (omega arith) ∙ c.ahead j (omega arith);
          long = length-set plan i z ∙ c.long;
          beyond = drop-set-lt n plan i z l ∙ c.beyond;
        }
      where
        new : List ℕ
        new = set plan i z

        other : (j : ℕ) → (j ≡ i → ⊥) → at new j ≡ at plan j
        other j ne = get_or-set_other plan i j z 0 ne
