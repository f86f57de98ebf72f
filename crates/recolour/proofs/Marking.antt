-- The label that stands for y, and the crossbar that a label stands for.
-- Assumes nothing.
use mathlib.Core.Path.{◌≡◌, refl, sym}
use mathlib.Core.Logic.{◌≢◌, inl, inr}
use mathlib.Core.List.{List}
use Prim.Native.Nat.{ℕ, ◌-◌, ◌≤◌, ◌<◌}
use native.Mathlib.Omega.{arith}
use lib.Dec.{eqb}
use borrow.Author.Tests.{eq-eqb, ne_eqb, lt-ltb, le-ltb}
use Rattle.laws.proofs.Cases.{by_same}
use Rattle.board.specs.Rule.{OnTwo}
use Rattle.split.specs.Split.{label_of}
use Rattle.recolour.specs.Steps.{evened, label_for_y, crossbar_by}

-- the crossbar of a label
module _ (x y mark l : ℕ) where
  pub on_y : l ≡ mark → crossbar_by x y mark l ≡ y
  unfolding crossbar_by
  on_y e = rw (eq-eqb l mark e)

  pub on_x : l ≢ mark → crossbar_by x y mark l ≡ x
  unfolding crossbar_by
  on_x ne = rw (ne_eqb l mark ne)

  pub on_either : OnTwo x y (crossbar_by x y mark l)
  on_either = by_same l mark (λ e. inr (on_y e)) (λ ne. inl (on_x ne))

  module _ (two : x ≢ y) where
    pub on_y_test : eqb (crossbar_by x y mark l) y ≡ eqb l mark
    on_y_test = by_same l mark (λ e. rw (on_y e, eq-eqb l mark e, eq-eqb y y refl)) (λ ne. rw (on_x ne, ne_eqb l mark ne, ne_eqb x y two))

    pub on_x_test : mark ≤ 1 → l ≤ 1 → eqb (crossbar_by x y mark l) x ≡ eqb l (1 - mark)
    on_x_test m b =
        by_same l mark (λ e. rw (on_y e, ne_eqb y x (λ q. two (sym q)), ne_eqb l (1 - mark) (omega arith)))
        (λ ne. rw (on_x ne, eq-eqb x x refl, eq-eqb l (1 - mark) (omega arith)))

-- the label for y
module _ (s : List ℕ) (count : ℕ) where
  pub mark_odd : count < evened count → label_for_y s count ≡ label_of s count
  unfolding label_for_y
  mark_odd l = rw (lt-ltb count (evened count) l)

  pub mark_even : evened count ≤ count → label_for_y s count ≡ 1
  unfolding label_for_y
  mark_even l = rw (le-ltb count (evened count) l)
