-- A walk round a cycle of two pairings P and Q, over labels X: the invariant, where it begins, a step of it, and where it ends.
-- Assumes nothing.
use mathlib.Core.Path.{◌≡◌, refl, sym, ap, ◌∙◌}
use Prim.Native.Nat.{ℕ, ◌+◌, ◌<◌}
use native.Mathlib.Omega.{arith}
use Rattle.laws.specs.Matching.{Perfect}
use Rattle.laws.proofs.Cases.{by_same}
use Rattle.walk.specs.Going.{no_label, Alternating, State, WalkAt, first, later, Walking}
use Rattle.walk.proofs.Two.{Two}

-- where a label is still to come, so is its partner's
pub blank_partner : (n : ℕ) (P X : ℕ → ℕ) → Perfect n P → Alternating n P X → (t : ℕ) → t < n → X t ≡ no_label → X (P t) ≡ no_label
blank_partner n P X m a t h b =
    by_same (X (P t)) no_label (λ e. e)
    (λ nb. let z : ⊥ = omega (arith, a.other (P t) (m.below t h) nb, ap X (m.back t h)) in absurd z)

module _ (n : ℕ) (P Q X : ℕ → ℕ) (mp : Perfect n P) (mq : Perfect n Q) (s : ℕ) where
  pub begin : s < n → State n P Q X → X s ≡ no_label → Walking n P Q X s s
  begin h st b =
      record {
        alt_p = st.alt_p;
        alt_q = λ g l ns nq nb. st.alt_q.other g l nb;
        t_in = h;
        head = first refl b (blank_partner n Q X mq st.alt_q s h b);
      }

  -- what the head tells at a blank t
  from_s : (t : ℕ) → WalkAt Q X s t → (t ≡ s → ⊥) → X (Q t) ≡ 1
  from_s t (first e a b) ne = absurd (ne e)
  from_s t (later a b c) ne = b

  by_one : (t : ℕ) → WalkAt Q X s t → (X (Q t) ≡ no_label → ⊥) → X (Q t) ≡ 1
  by_one t (first e a b) nb = absurd (nb (ap (λ (k : ℕ). X (Q k)) e ∙ b))
  by_one t (later a b c) nb = b

  s_zero : (t : ℕ) → WalkAt Q X s t → (t ≡ s → ⊥) → X s ≡ 0
  s_zero t (first e a b) ne = absurd (ne e)
  s_zero t (later a b c) ne = a

  module _ (X' : ℕ → ℕ) (t : ℕ) (w : Walking n P Q X s t) (blank-t : X t ≡ no_label) (two : Two X X' t (P t)) where
    blank_u : X (P t) ≡ no_label
    blank_u = blank_partner n P X mp w.alt_p t w.t_in blank-t

    u_in : P t < n
    u_in = mp.below t w.t_in

    -- a label that is there stays
    keep : (g : ℕ) → (X g ≡ no_label → ⊥) → X' g ≡ X g
    keep g nb = two.rest g (λ e. nb (ap X e ∙ blank-t)) (λ e. nb (ap X e ∙ blank_u))

    pub grows : (g : ℕ) → X' g ≡ no_label → X g ≡ no_label
    grows g b = by_same (X g) no_label (λ e. e) (λ nb. sym (keep g nb) ∙ b)

    step_p : (g : ℕ) → g < n → (X' g ≡ no_label → ⊥) → X' (P g) + X' g ≡ 1
    step_p g h b =
        by_same g t
        (λ e. omega (arith, ap X' e, ap (λ (k : ℕ). X' (P k)) e, two.at_t, two.at_u))
        (λ nt.
        by_same g (P t)
        (λ e. omega (arith, ap X' e, ap (λ (k : ℕ). X' (P k)) e, ap X' (mp.back t w.t_in), two.at_t, two.at_u))
        (λ nu.
        omega (
          arith,
          two.rest g nt nu,
          two.rest (P g) (λ e. nu (sym (mp.back g h) ∙ ap P e)) (λ e. nt (sym (mp.back g h) ∙ ap P e ∙ mp.back t w.t_in)),
          w.alt_p.other g h (λ e. b (two.rest g nt nu ∙ e)),
        )))

    step_q : (g : ℕ) → g < n → (g ≡ s → ⊥) → (g ≡ Q (Q (P t)) → ⊥) → (X' g ≡ no_label → ⊥) → X' (Q g) + X' g ≡ 1
    step_q g h ns nq b =
        by_same g t
        (λ e.
        let one : X (Q t) ≡ 1 = from_s t w.head (λ e'. ns (e ∙ e')) in
        omega (arith, ap X' e, ap (λ (k : ℕ). X' (Q k)) e, two.at_t, keep (Q t) (omega arith)))
        (λ nt.
        let same : X' g ≡ X g = two.rest g nt (λ e. nq (e ∙ sym (mq.back (P t) u_in))) in
        let nb : X g ≡ no_label → ⊥ = λ e. b (same ∙ e) in
        by_same g (Q t)
        (λ e.
        omega (
          arith,
          ap X e,
          by_one t w.head (λ z. nb (ap X e ∙ z)),
          ap (λ (k : ℕ). X' (Q k)) e,
          ap X' (mq.back t w.t_in),
          two.at_t,
        ))
        (λ nqt.
        let sum : X (Q g) + X g ≡ 1 = w.alt_q g h ns nqt nb in
        omega (arith, keep (Q g) (omega arith))))

    closes : (X' (Q (P t)) ≡ no_label → ⊥) → (Q (P t) ≡ s → ⊥) → ⊥
    closes b ns =
        by_same (Q (P t)) t
        (λ e. omega (arith, from_s t w.head (λ e'. ns (e ∙ e')), ap X (sym (ap Q e) ∙ mq.back (P t) u_in), blank_u))
        (λ nt.
        let same : X' (Q (P t)) ≡ X (Q (P t)) = two.rest (Q (P t)) nt (mq.moves (P t) u_in) in
        omega (
          arith,
          w.alt_q (Q (P t)) (mq.below (P t) u_in) ns
              (λ e. mp.moves t w.t_in (sym (mq.back (P t) u_in) ∙ ap Q e ∙ mq.back t w.t_in))
              (λ z. b (same ∙ z)),
          ap X (mq.back (P t) u_in),
          blank_u,
        ))

    pub go_on : Walking n P Q X' s (Q (P t))
    go_on =
        record {
          alt_p = record { other = step_p };
          alt_q = step_q;
          t_in = mq.below (P t) u_in;
          head = later
              (by_same s t (λ e. ap X' e ∙ two.at_t)
              (λ ne. let z : X s ≡ 0 = s_zero t w.head (λ e. ne (sym e)) in keep s (omega arith) ∙ z))
              (ap X' (mq.back (P t) u_in) ∙ two.at_u)
              (λ b. by_same (Q (P t)) s (λ e. e) (λ ns. absurd (closes b ns)));
        }

  -- where the walk comes to a label, it is round
  module _ (t : ℕ) (w : Walking n P Q X s t) (nb : X t ≡ no_label → ⊥) where
    at_s : t ≡ s
    at_s = ends w.head
      where
        ends : WalkAt Q X s t → t ≡ s
        ends (first e a b) = e
        ends (later a b c) = c nb

    s_is : X s ≡ 0
    s_is = is w.head
      where
        is : WalkAt Q X s t → X s ≡ 0
        is (first e a b) = absurd (nb (ap X e ∙ a))
        is (later a b c) = a

    q_is : X (Q t) ≡ 1
    q_is = is w.head
      where
        is : WalkAt Q X s t → X (Q t) ≡ 1
        is (first e a b) = absurd (nb (ap X e ∙ a))
        is (later a b c) = b

    pub round : State n P Q X
    round =
        record {
          alt_p = w.alt_p;
          alt_q = record {
            other = λ g h b.
                by_same g s
                (λ e. omega (arith, ap X e, ap (λ (k : ℕ). X (Q k)) (e ∙ sym at_s), s_is, q_is))
                (λ ns.
                by_same g (Q t)
                (λ e. omega (arith, ap X e, ap (λ (k : ℕ). X (Q k)) e, ap X (mq.back t w.t_in ∙ at_s), s_is, q_is))
                (λ nq. w.alt_q g h ns nq b));
          };
        }

    pub s_labelled : X s ≡ no_label → ⊥
    s_labelled e = omega (arith, s_is)
