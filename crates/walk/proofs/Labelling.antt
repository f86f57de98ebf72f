-- The walk over lent labels: the laws of `Round` at its lists.
-- Assumes nothing.
use mathlib.Core.Path.{◌≡◌, refl, sym, ap, ◌∙◌}
use mathlib.Core.List.{List}
use Prim.Native.Nat.{ℕ, ◌+◌, ◌<◌}
use native.Mathlib.Omega.{arith}
use lib.ListN.{length, set, length-set}
use Rattle.laws.specs.Sum.{sum}
use Rattle.laws.specs.Row.{at}
use Rattle.laws.specs.Matching.{is}
use Rattle.laws.proofs.Cases.{by_same}
use Rattle.walk.specs.Walk.{Matched}
use Rattle.walk.specs.Going.{no_label, Grown, Walking, Passing}
use Rattle.walk.proofs.Two.{Two, two_set, two_fewer}
use Rattle.walk.proofs.Round.{begin, go_on, grows, round, s_labelled, blank_partner}

-- the walk from a stands at t; or a had a label, and nothing has changed
pub data Wends (p q x₀ x : List ℕ) (a t : ℕ) : Type 0 where
  stays : (at x₀ a ≡ no_label → ⊥) → x ≡ x₀ → t ≡ a → Wends p q x₀ x a t
  goes : Walking (length p) (at p) (at q) (at x) a t → Grown (at x₀) (at x) → Wends p q x₀ x a t

pub record Wending (p q x₀ x : List ℕ) (a t : ℕ) : Type 0 where
  pub start : Passing p q x₀ a
  pub matched : Matched p q x
  pub inside : t < length p
  pub wends : Wends p q x₀ x a t

pub wend_first : (p q x : List ℕ) (a : ℕ) → Passing p q x a → a < length p → Wending p q x x a a
wend_first p q x a h l =
    record {
      start = h;
      matched = h.matched;
      inside = l;
      wends = by_same (at x a) no_label (λ b. goes (begin _ _ _ _ h.matched.on_p h.matched.on_q a l h.state b) (record { grown = λ g e. e }))
          (λ nb. stays nb refl refl);
    }

-- a step
module _ (p q x₀ x : List ℕ) (a t : ℕ) (w : Wending p q x₀ x a t) (b : at x t ≡ no_label) where
  -- the partner, and the labels after the step
  abbrev u : ℕ
  u = at p t

  abbrev x' : List ℕ
  x' = set (set x t 0) u 1

  pub u_in : u < length p
  u_in = w.matched.on_p.below t w.inside

  two : Two (at x) (at x') t u
  two = two_set x t u (omega (arith, w.inside, w.matched.long)) (omega (arith, u_in, w.matched.long)) (w.matched.on_p.moves t w.inside)

  walking : Wends p q x₀ x a t → Walking (length p) (at p) (at q) (at x) a t
  walking (goes k g) = k
  walking (stays nb e d) = absurd (nb (sym (ap (λ (l : List ℕ). at l a) e) ∙ sym (ap (at x) d) ∙ b))

  grown : Wends p q x₀ x a t → Grown (at x₀) (at x)
  grown (goes k g) = g
  grown (stays nb e d) = absurd (nb (sym (ap (λ (l : List ℕ). at l a) e) ∙ sym (ap (at x) d) ∙ b))

  abbrev going : Walking (length p) (at p) (at q) (at x) a t
  going = walking w.wends

  pub wend_again : Wending p q x₀ x' a (at q u)
  wend_again =
      let m = w.matched in
      record {
        start = w.start;
        matched = record { q_long = m.q_long; long = simp length-set m.long; on_p = m.on_p; on_q = m.on_q };
        inside = m.on_q.below u u_in;
        wends = goes (go_on _ _ _ _ m.on_p m.on_q a (at x') t going b two)
            (record { grown = λ g e. (grown w.wends).grown g (grows _ _ _ _ m.on_p m.on_q a (at x') t going b two g e) });
      }

  pub fewer : sum (is (at x') no_label) (length p) < sum (is (at x) no_label) (length p)
  fewer =
      let m = w.matched in
      two_fewer _ _ _ t u w.inside u_in (m.on_p.moves t w.inside) b (blank_partner _ _ _ m.on_p going.alt_p t w.inside b) two

pub wend_round : (p q x₀ x : List ℕ) (a t : ℕ) → Wending p q x₀ x a t → (at x t ≡ no_label → ⊥) → Passing p q x (a + 1)
wend_round p q x₀ x a t w nb =
    go w.wends
  where
    m : Matched p q x
    m = w.matched

    go : Wends p q x₀ x a t → Passing p q x (a + 1)
    go (goes k g) =
        record {
          matched = m;
          state = round _ _ _ _ m.on_p m.on_q a t k nb;
          done = λ i l z. by_same i a (λ e. s_labelled _ _ _ _ m.on_p m.on_q a t k nb (ap (at x) (sym e) ∙ z)) (λ ne. w.start.done i (omega arith) (g.grown i z));
        }
    go (stays na e d) =
        record {
          matched = m;
          state = rw e w.start.state;
          done = λ i l z. by_same i a (λ y. nb (ap (at x) (d ∙ sym y) ∙ z)) (λ ne. w.start.done i (omega arith) (rw e at z));
        }
