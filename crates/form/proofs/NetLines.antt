-- The lines of the nets: one more, stopped in one, and none left.
-- Assumes nothing.
use mathlib.Core.Path.{◌≡◌, refl, sym, ap, subst, ◌∙◌}
use mathlib.Core.Bool.{true, false}
use mathlib.Core.List.{List, [], ◌∷◌, ◌++◌, append_assoc}
use Prim.Native.Nat.{ℕ, zero, suc, ◌+◌, ◌-◌, ◌≤◌, ◌<◌}
use native.Mathlib.Omega.{arith}
use lib.ListN.{length, get_or, take, drop, length-drop, take-append-drop}
use lib.Seq.{take-add}
use Rattle.std.specs.Prelude.{Ok, Err}
use Rattle.form.specs.declared.Read.{Read}
use Rattle.form.specs.declared.Broken.{Broken}
use Rattle.text.specs.Forms.{decimal}
use Rattle.form.specs.Form.{space, newline, number_then, net_line, nets_text, EndsOf, IsNets}
use Rattle.form.specs.Breaks.{Begins}
use Rattle.form.specs.Walk.{Stops, NumberBreaks, NumberAt, NetAt, NetsAt}
use Rattle.form.proofs.Stopping.{From, from_stops, stops_as, ended, broken_none, drop_on, Goes, goes_then, goes_stuck}
use Rattle.form.proofs.Digits.{number_once}
use Rattle.form.proofs.Numbers.{Num, number_then_append, number_from, number_breaks}

-- a net's line from its front
pub line_then : (v w : ℕ) (s : List ℕ) → net_line v w ++ s ≡ decimal v ++ (space ∷ (decimal w ++ (newline ∷ s)))
unfolding net_line
line_then v w s = append_assoc (number_then v space) (number_then w newline) s ∙ number_then_append v space _ ∙ ap (λ (p : List ℕ). decimal v ++ (space ∷ p)) (number_then_append w newline s)

-- the lines of the nets of a list, from the first on
ends_of_next : (n v w : ℕ) (ends : List ℕ) → v < 65536 → w < 65536 → EndsOf n ends → EndsOf (suc n) (v ∷ w ∷ ends)
ends_of_next n v w ends vs ws of = record { long = omega (arith, of.long); small = each }
  where
    each : (i : ℕ) → get_or (v ∷ w ∷ ends) i 0 < 65536
    each zero = vs
    each (suc zero) = ws
    each (suc (suc i)) = of.small i

fewer : (n v w : ℕ) (ends : List ℕ) → EndsOf (suc n) (v ∷ w ∷ ends) → EndsOf n ends
fewer n v w ends of = record { long = omega (arith, of.long); small = λ i. of.small (suc (suc i)) }

-- a net's line and the lines of n nets are the lines of n + 1 nets
abbrev Second : ℕ → ℕ → List ℕ → Type 0
Second n v = Num newline (λ w. IsNets n)

abbrev First : ℕ → List ℕ → Type 0
First n = Num space (Second n)

module _ (n : ℕ) where
  pub nets_forth : (t : List ℕ) → IsNets (suc n) t → First n t
  unfolding nets_text
  nets_forth t h = by_list h.ends h.of h.is
    where
      by_list : (ends : List ℕ) → EndsOf (suc n) ends → t ≡ nets_text ends → First n t
      by_list [] of e = absurd (omega (arith, of.long))
      by_list (v ∷ []) of e = absurd (omega (arith, of.long))
      by_list (v ∷ w ∷ ends) of e =
          record {
            v = v;
            s = decimal w ++ (newline ∷ nets_text ends);
            small = of.small 0;
            is = e ∙ line_then v w (nets_text ends);
            more = record { v = w; s = nets_text ends; small = of.small 1; is = refl; more = record { ends = ends; of = fewer n v w ends of; is = refl } };
          }

  pub nets_back : (t : List ℕ) → First n t → IsNets (suc n) t
  unfolding nets_text
  nets_back t p =
      let q = p.more in let r = q.more in
      record {
        ends = p.v ∷ q.v ∷ r.ends;
        of = ends_of_next n p.v q.v r.ends p.small q.small r.of;
        is = p.is ∙ ap (λ (s : List ℕ). decimal p.v ++ (space ∷ s)) (q.is ∙ ap (λ (s : List ℕ). decimal q.v ++ (newline ∷ s)) r.is) ∙ sym (line_then p.v q.v (nets_text r.ends));
      }

-- some lines
pub some_nets : (n : ℕ) → Begins (IsNets n) []
unfolding nets_text
some_nets zero = record { rest = []; text = record { ends = []; of = record { long = refl; small = λ i. omega arith }; is = refl } }
some_nets (suc n) =
    let more = some_nets n in
    record { rest = _; text = nets_back n _ (record { v = 0; s = _; small = omega arith; is = refl; more = record { v = 0; s = more.rest; small = omega arith; is = refl; more = more.text } }) }

-- one line and one rest
pub line_once : (v w x y : ℕ) (s u : List ℕ) → net_line v w ++ s ≡ net_line x y ++ u → (v ≡ x) × (w ≡ y) × (s ≡ u)
line_once v w x y s u e =
    let first = number_once space refl v x _ _ (sym (line_then v w s) ∙ e ∙ line_then x y u) in
    let second = number_once newline refl w y s u first.1 in
    (first.0, second.0, second.1)

-- one list of numbers
pub ends_once : (n : ℕ) (ends ends' : List ℕ) → EndsOf n ends → EndsOf n ends' → nets_text ends ≡ nets_text ends' → ends ≡ ends'
unfolding nets_text
ends_once zero [] [] p q e = refl
ends_once zero (v ∷ ends) ends' p q e = absurd (omega (arith, p.long))
ends_once zero [] (x ∷ ends') p q e = absurd (omega (arith, q.long))
ends_once (suc n) [] ends' p q e = absurd (omega (arith, p.long))
ends_once (suc n) (v ∷ []) ends' p q e = absurd (omega (arith, p.long))
ends_once (suc n) (v ∷ w ∷ ends) [] p q e = absurd (omega (arith, q.long))
ends_once (suc n) (v ∷ w ∷ ends) (x ∷ []) p q e = absurd (omega (arith, q.long))
ends_once (suc n) (v ∷ w ∷ ends) (x ∷ y ∷ ends') p q e =
    let z = line_once v w x y _ _ e in
    rw (z.0, z.1, ends_once n ends ends' (fewer n v w ends p) (fewer n x y ends' q) z.2)

-- ---- the walk over one line

module _ (n : ℕ) (t : List ℕ) where
  some_second : (v : ℕ) → v < 65536 → Begins (Second n v) []
  some_second v l = let more = some_nets n in record { rest = _; text = record { v = 0; s = more.rest; small = omega arith; is = refl; more = more.text } }

  pub first_breaks : (v k : ℕ) → v < 65536 → k ≤ length t → NumberBreaks space t v k → Stops (IsNets (suc n)) t k false
  first_breaks v k l within broken =
      stops_as (IsNets (suc n)) (First n) t k false (nets_forth n) (nets_back n) (number_breaks space refl (Second n) t some_second v k l within broken)

  pub second_breaks : (v k w j : ℕ) → v < 65536 → k ≤ length t → take k t ≡ number_then v space → w < 65536 → j ≤ length (drop k t)
      → NumberBreaks newline (drop k t) w j → Stops (IsNets (suc n)) t (k + j) false
  second_breaks v k w j l within first small inside broken =
      stops_as (IsNets (suc n)) (First n) t (k + j) false (nets_forth n) (nets_back n)
      (from_stops (First n) (Second n v) t k j false (number_from space refl (Second n) t v k l within first)
      (number_breaks newline refl (λ _. IsNets n) (drop k t) (λ _ _. some_nets n) w j small inside broken))

  pub nets_from_line : (v w k : ℕ) → v < 65536 → w < 65536 → k ≤ length t → take k t ≡ net_line v w → From (IsNets (suc n)) t k (IsNets n)
  nets_from_line v w k vs ws within e =
      record {
        within = within;
        forth = λ s h. strip s (nets_forth n _ h);
        back = λ s h. nets_back n _ (record { v = v; s = _; small = vs; is = same s; more = record { v = w; s = s; small = ws; is = refl; more = h } });
      }
    where
      same : (s : List ℕ) → take k t ++ s ≡ decimal v ++ (space ∷ (decimal w ++ (newline ∷ s)))
      same s = ap (λ (p : List ℕ). p ++ s) e ∙ line_then v w s

      strip : (s : List ℕ) → First n (take k t ++ s) → IsNets n s
      strip s p =
          let first = number_once space refl v p.v _ _ (sym (same s) ∙ p.is) in
          let second = number_once newline refl w p.more.v s p.more.s (first.1 ∙ p.more.is) in
          subst (IsNets n) (sym second.1) p.more.more

pub line_whole : (t : List ℕ) (v w k j : ℕ) → take k t ≡ number_then v space → take j (drop k t) ≡ number_then w newline → take (k + j) t ≡ net_line v w
unfolding net_line
line_whole t v w k j p q = take-add k j t ∙ rw (p, q)

module _ (t : List ℕ) (a : ℕ) where
  pub broken_first : (b : Broken) → NumberAt space t a (Err b) → NetAt t a (Err b)
  broken_first b at =
      record {
        past = at.past;
        within = at.within;
        breaks = λ n. first_breaks n (drop a t) at.breaks.v (b.0 - a) at.breaks.small (omega (arith, at.within, length-drop a t)) at.breaks.breaks;
      }

  module _ (r : Read ℕ) (at : NumberAt space t a (Ok r)) where
    inside : r.end - a ≤ length (drop a t)
    inside = omega (arith, at.within, length-drop a t)

    pub broken_second : (b : Broken) → NumberAt newline t r.end (Err b) → NetAt t a (Err b)
    broken_second b next =
        let z : r.end - a + (b.0 - r.end) ≡ b.0 - a = omega (arith, at.past, next.past) in
        record {
          past = omega (arith, at.past, next.past);
          within = next.within;
          breaks = λ n. rw z at (second_breaks n (drop a t) r.value (r.end - a) next.breaks.v (b.0 - r.end) at.bytes.small inside at.bytes.is next.breaks.small
              (rw (drop_on t a r.end at.past) (omega (arith, next.within, length-drop r.end t))) (rw (drop_on t a r.end at.past) next.breaks.breaks));
        }

    pub both_numbers : (q : Read ℕ) → NumberAt newline t r.end (Ok q) → NetAt t a (Ok (record { value = (r.value, q.value); end = q.end }))
    both_numbers q next =
        let z : r.end - a + (q.end - r.end) ≡ q.end - a = omega (arith, at.past, next.past) in
        record {
          past = omega (arith, at.past, next.past);
          within = next.within;
          bytes = record {
            first_small = at.bytes.small;
            second_small = next.bytes.small;
            is = rw z at (line_whole (drop a t) r.value q.value (r.end - a) (q.end - r.end) at.bytes.is (rw (drop_on t a r.end at.past) next.bytes.is));
          };
        }

-- ---- the walk over all lines, with so many left at byte e

module _ (n : ℕ) (t : List ℕ) (a : ℕ) where
  pub all_past : From (IsNets n) t a (IsNets 0) → Stops (IsNets n) t a true
  unfolding nets_text some_nets
  all_past p =
      let z : a + 0 ≡ a = omega arith in
      rw z at (from_stops (IsNets n) (IsNets 0) t a 0 true p (ended (IsNets 0) (drop a t) (some_nets 0).text (λ x s h. none x s h.ends h.of h.is)))
    where
      none : (x : ℕ) (s ends : List ℕ) → EndsOf 0 ends → x ∷ s ≡ nets_text ends → ⊥
      none x s [] of e = absurd (omega (arith, ap length e))
      none x s (v ∷ ends) of e = absurd (omega (arith, of.long))

module _ (n : ℕ) (t : List ℕ) (a e : ℕ) where
  pub stops_here : (left : ℕ) (b : Broken) → 0 < left → Goes (IsNets n) t a e (IsNets left) → NetAt t e (Err b) → NetsAt n t a (Err b)
  stops_here zero b l p q = absurd (omega arith)
  stops_here (suc left) b l p q = goes_stuck (IsNets n) (IsNets (suc left)) t a e p b (record { past = q.past; within = q.within; breaks = q.breaks left })

  pub goes_past : (left : ℕ) (r : Read (ℕ × ℕ)) → 0 < left → Goes (IsNets n) t a e (IsNets left) → NetAt t e (Ok r) → Goes (IsNets n) t a r.end (IsNets (left - 1))
  goes_past zero r l p q = absurd (omega arith)
  goes_past (suc left) r l p q =
      let z : suc left - 1 ≡ left = omega arith in
      rw z (goes_then (IsNets n) (IsNets (suc left)) t a e p (IsNets left) r.end (record {
        past = q.past;
        within = q.within;
        from = nets_from_line left (drop e t) r.value.0 r.value.1 (r.end - e) q.bytes.first_small q.bytes.second_small (omega (arith, q.within, length-drop e t)) q.bytes.is;
      }))

  pub none_left : (left : ℕ) → left ≡ 0 → Goes (IsNets n) t a e (IsNets left) → NetsAt n t a (Ok e)
  none_left left z p = record { past = p.past; within = p.within; stops = all_past n (drop a t) (e - a) (rw z at p.from) }

-- ---- a line that is known

module _ (n v w : ℕ) (t ends : List ℕ) (a : ℕ) (vs : v < 65536) (ws : w < 65536) (of : EndsOf n ends) (e : drop a t ≡ net_line v w ++ nets_text ends) where
  pub line_known : (r : Read (ℕ × ℕ)) → NetAt t a (Ok r) → (r.value.0 ≡ v) × (r.value.1 ≡ w) × (drop r.end t ≡ nets_text ends)
  line_known r q =
      let z = line_once r.value.0 r.value.1 v w (drop (r.end - a) (drop a t)) (nets_text ends)
      (ap (λ (p : List ℕ). p ++ drop (r.end - a) (drop a t)) (sym q.bytes.is) ∙ take-append-drop (r.end - a) (drop a t) ∙ e) in
      (z.0, z.1, sym (drop_on t a r.end q.past) ∙ z.2)

  -- its walk does not break
  pub line_unbroken : (b : Broken) → NetAt t a (Err b) → ⊥
  unfolding nets_text
  line_unbroken b q = broken_none (IsNets (suc n)) (drop a t) (b.0 - a) (q.breaks n) (record { ends = v ∷ w ∷ ends; of = ends_of_next n v w ends vs ws of; is = e })
