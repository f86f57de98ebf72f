-- Where the walk of a text stops: the longest beginning, taken piece by piece.
-- Assumes nothing.
use mathlib.Core.Path.{◌≡◌, sym, ap, subst, ◌∙◌}
use mathlib.Core.Bool.{Bool, true, false}
use mathlib.Core.List.{List, [], ◌∷◌, ◌++◌, append_assoc, append-nil}
use mathlib.Core.Logic.{dite}
use native.Mathlib.Decide.{dec_lt}
use Prim.Native.Nat.{ℕ, suc, ◌+◌, ◌-◌, ◌≤◌, ◌<◌}
use native.Mathlib.Omega.{arith}
use lib.ListN.{length, get_or, take, drop, length-drop}
use lib.Seq.{take-add, drop-cons, drop-drop, take-length}
use Rattle.form.specs.Breaks.{Begins}
use Rattle.form.specs.declared.Broken.{Broken}
use Rattle.form.specs.Walk.{Ends, Stops, Short, Stuck}

-- a longer beginning, from byte a on
pub take_on : (a j : ℕ) (t : List ℕ) → a ≤ j → take j t ≡ take a t ++ take (j - a) (drop a t)
take_on a j t h = let e : a + (j - a) ≡ j = omega arith in ap (λ (i : ℕ). take i t) (sym e) ∙ take-add a (j - a) t

take_past : (k j : ℕ) (t : List ℕ) → k < j → k < length t → take j t ≡ take k t ++ (get_or t k 0 ∷ take (j - suc k) (drop (suc k) t))
take_past k j t h l =
    let e : j - k ≡ suc (j - suc k) = omega arith in
    take_on k j t (omega arith) ∙ rw (e, drop-cons t k 0 l)

-- stopped for good: with the next byte it begins none of the texts
pub stuck : (L : List ℕ → Type 0) (t : List ℕ) (k : ℕ) → k ≤ length t → Begins L (take k t) → (L (take k t) → ⊥)
    → (k < length t → (s : List ℕ) → L (take k t ++ (get_or t k 0 ∷ s)) → ⊥) → Stops L t k false
stuck L t k within begins unended next =
    record {
      longest = record { within = within; begins = begins; no_longer = λ j h l b. next (omega arith) _ (subst L (ap (λ (p : List ℕ). p ++ b.rest) (take_past k j t h (omega arith)) ∙ append_assoc (take k t) _ b.rest) b.text) };
      ends = unended;
    }

-- nothing is to come
pub ended : (L : List ℕ → Type 0) (t : List ℕ) → L [] → ((x : ℕ) (s : List ℕ) → L (x ∷ s) → ⊥) → Stops L t 0 true
ended L t now-ended none =
    record {
      longest =
          record {
            within = omega arith;
            begins = record { rest = []; text = now-ended };
            no_longer = λ j h l b. none _ _ (subst L (ap (λ (p : List ℕ). p ++ b.rest) (take_past 0 j t h (omega arith))) b.text);
          };
      ends = now-ended;
    }

-- a text that the walk calls broken is none of the texts
pub broken_none : (L : List ℕ → Type 0) (t : List ℕ) (k : ℕ) → Stops L t k false → L t → ⊥
broken_none L t k s whole =
    dite (dec_lt k (length t))
    (λ l. s.longest.no_longer (length t) l (omega arith) (record { rest = []; text = subst L (sym (append-nil (take (length t) t) ∙ take-length t)) whole }))
    (λ g. let e : k ≡ length t = omega (arith, s.longest.within) in
    s.ends (subst L (sym (ap (λ (j : ℕ). take j t) e ∙ take-length t)) whole))

-- the texts M are what the texts L go on with behind the first a bytes of t
pub record From (L : List ℕ → Type 0) (t : List ℕ) (a : ℕ) (M : List ℕ → Type 0) : Type 0 where
  pub within : a ≤ length t
  pub forth : (s : List ℕ) → L (take a t ++ s) → M s
  pub back : (s : List ℕ) → M s → L (take a t ++ s)

pub from_start : (L : List ℕ → Type 0) (t : List ℕ) → From L t 0 L
from_start L t = record { within = omega arith; forth = λ _ l. l; back = λ _ l. l }

pub from_as : (L M N : List ℕ → Type 0) (t : List ℕ) (a : ℕ) → ((s : List ℕ) → L s → M s) → ((s : List ℕ) → M s → L s) → From M t a N → From L t a N
from_as L M N t a f g p = record { within = p.within; forth = λ s l. p.forth s (f _ l); back = λ s n. g _ (p.back s n) }

pub from_then : (L M N : List ℕ → Type 0) (t : List ℕ) (a k : ℕ) → From L t a M → From M (drop a t) k N → From L t (a + k) N
from_then L M N t a k p q =
    let e : (s : List ℕ) → take (a + k) t ++ s ≡ take a t ++ (take k (drop a t) ++ s) = λ s. ap (λ (l : List ℕ). l ++ s) (take-add a k t) ∙ append_assoc (take a t) _ s in
    record {
      within = omega (arith, q.within, length-drop a t, p.within);
      forth = λ s l. q.forth s (p.forth _ (subst L (e s) l));
      back = λ s n. subst L (sym (e s)) (p.back _ (q.back s n));
    }

ends_as : (w : Bool) (A B : Type 0) → (A → B) → (B → A) → Ends w B → Ends w A
ends_as true A B f g b = g b
ends_as false A B f g b = λ a. b (f a)

-- where the rest stops, the text stops
pub from_stops : (L M : List ℕ → Type 0) (t : List ℕ) (a k : ℕ) (w : Bool) → From L t a M → Stops M (drop a t) k w → Stops L t (a + k) w
from_stops L M t a k w p q =
    let l = q.longest in
    let e : (j : ℕ) (s : List ℕ) → a ≤ j → take j t ++ s ≡ take a t ++ (take (j - a) (drop a t) ++ s) = λ j s h. ap (λ (x : List ℕ). x ++ s) (take_on a j t h) ∙ append_assoc (take a t) _ s in
    record {
      longest =
          record {
            within = omega (arith, l.within, length-drop a t, p.within);
            begins = let b = l.begins in record { rest = b.rest; text = subst L (sym (ap (λ (x : List ℕ). x ++ b.rest) (take-add a k t) ∙ append_assoc (take a t) _ b.rest)) (p.back _ b.text) };
            no_longer = λ j h i b. l.no_longer (j - a) (omega arith) (omega (arith, length-drop a t, p.within)) (record { rest = b.rest; text = p.forth _ (subst L (e j b.rest (omega arith)) b.text) });
          };
      ends = ends_as w _ _ (λ x. p.forth _ (subst L (take-add a k t) x)) (λ x. subst L (sym (take-add a k t)) (p.back _ x)) q.ends;
    }

pub stops_as : (L M : List ℕ → Type 0) (t : List ℕ) (k : ℕ) (w : Bool) → ((s : List ℕ) → L s → M s) → ((s : List ℕ) → M s → L s) → Stops M t k w → Stops L t k w
stops_as L M t k w f g q =
    let l = q.longest in
    record {
      longest =
          record {
            within = l.within;
            begins = record { rest = l.begins.rest; text = g _ l.begins.text };
            no_longer = λ j h i b. l.no_longer j h i (record { rest = b.rest; text = f _ b.text });
          };
      ends = ends_as w _ _ (f _) (g _) q.ends;
    }

-- ---- by places in the text: the piece that begins at byte a goes on at byte e

pub drop_on : (t : List ℕ) (a e : ℕ) → a ≤ e → drop (e - a) (drop a t) ≡ drop e t
drop_on t a e h = let z : a + (e - a) ≡ e = omega arith in drop-drop (e - a) a t ∙ ap (λ (k : ℕ). drop k t) z

pub record Goes (L : List ℕ → Type 0) (t : List ℕ) (a e : ℕ) (M : List ℕ → Type 0) : Type 0 where
  pub past : a ≤ e
  pub within : e ≤ length t
  pub from : From L (drop a t) (e - a) M

pub goes_start : (L : List ℕ → Type 0) (t : List ℕ) (a : ℕ) → a ≤ length t → Goes L t a a L
goes_start L t a h = let z : a - a ≡ 0 = omega arith in record { past = omega arith; within = h; from = rw z (from_start L (drop a t)) }

module _ (L M : List ℕ → Type 0) (t : List ℕ) (a e : ℕ) (p : Goes L t a e M) where
  pub goes_as : (K : List ℕ → Type 0) → ((s : List ℕ) → K s → L s) → ((s : List ℕ) → L s → K s) → Goes K t a e M
  goes_as K f g = record { past = p.past; within = p.within; from = from_as K L M (drop a t) (e - a) f g p.from }

  pub goes_then : (N : List ℕ → Type 0) (i : ℕ) → Goes M t e i N → Goes L t a i N
  goes_then N i q =
      let z : e - a + (i - e) ≡ i - a = omega (arith, p.past, q.past) in
      record {
        past = omega (arith, p.past, q.past);
        within = q.within;
        from = rw z at (from_then L M N (drop a t) (e - a) (i - e) p.from (rw (sym (drop_on t a e p.past)) at q.from));
      }

  -- where the rest stops, the piece stops
  goes_to : (w : Bool) (i : ℕ) → e ≤ i → Stops M (drop e t) (i - e) w → Stops L (drop a t) (i - a) w
  goes_to w i h q =
      let z : e - a + (i - e) ≡ i - a = omega (arith, p.past) in
      rw z at (from_stops L M (drop a t) (e - a) (i - e) w p.from (rw (sym (drop_on t a e p.past)) at q))

  pub goes_stuck : (b : Broken) → Stuck (Short M) t e b → Stuck (Short L) t a b
  goes_stuck b q = record { past = omega (arith, p.past, q.past); within = q.within; breaks = goes_to false b.0 q.past q.breaks }

  pub goes_ends : (i : ℕ) → e ≤ i → Stops M (drop e t) (i - e) true → Stops L (drop a t) (i - a) true
  goes_ends = goes_to true
