-- A number of the form, the byte behind it, and what may follow.
-- Assumes nothing.
use mathlib.Core.Path.{◌≡◌, refl, sym, ap, subst, ◌∙◌}
use mathlib.Core.Bool.{Bool, true, false, ◌&&◌, ◌||◌, false≢true, and-eq-true_iff}
use mathlib.Core.Logic.{◌⊎◌, inr, ⊎_elim, dite}
use mathlib.Core.List.{List, [], ◌∷◌, ◌++◌, append-nil}
use Prim.Native.Nat.{ℕ, ◌+◌, ◌-◌, ◌*◌, ◌/◌, ◌%◌, ◌≤◌, ◌<◌}
use native.Mathlib.Decide.{dec_lt}
use native.Mathlib.Numerals.{add-one}
use native.Mathlib.Omega.{arith}
use lib.Dec.{leb, eqb}
use lib.ListN.{length, get_or, take, drop, length-append, length-drop}
use lib.Seq.{append_snoc, length-take-le, take-suc, take_all, get_or-drop}
use borrow.Author.Tests.{le-leb, leb-false, ne_eqb}
use Rattle.laws.proofs.Cases.{by_test, by_same}
use Rattle.laws.proofs.Test.{and_says, or_says, leb_says}
use Rattle.std.specs.Prelude.{Ok, Err}
use Rattle.text.specs.Forms.{decimal}
use Rattle.text.proofs.Decimals.{decimal_small, decimal_more}
use Rattle.form.specs.Form.{number_then}
use Rattle.form.specs.Breaks.{Begins}
use Rattle.form.specs.Walk.{Stops, is_digit, digit_fits, Came, NumberBreaks, NumberAt}
use Rattle.form.proofs.Digits.{first_digit, zero_first, number_once, number_ends, number_other, number_more}
use Rattle.form.proofs.Stopping.{From, stuck}

-- a number v, byte b, and one of the texts M v
pub record Num (b : ℕ) (M : ℕ → List ℕ → Type 0) (t : List ℕ) : Type 0 where
  pub v : ℕ
  pub s : List ℕ
  pub small : v < 65536
  pub is : t ≡ decimal v ++ (b ∷ s)
  pub more : M v s

pub number_then_append : (v b : ℕ) (s : List ℕ) → number_then v b ++ s ≡ decimal v ++ (b ∷ s)
unfolding number_then
number_then_append v b s = append_snoc (decimal v) b s

-- ---- whether a byte can be the next digit

module _ (first : Bool) (v x : ℕ) where
  pub fits_any : is_digit x ≡ true → first ≡ true → digit_fits first v x ≡ true
  unfolding digit_fits
  fits_any h e = rw (h, e)

  pub fits_more : is_digit x ≡ true → first ≡ false → 1 ≤ v → digit_fits first v x ≡ leb (10 * v + (x - 48)) 65535
  unfolding digit_fits
  fits_more h e l = rw (h, e, le-leb 1 v l)

  pub fits_says : digit_fits first v x ≡ true → (is_digit x ≡ true) × ((first ≡ true) ⊎ ((1 ≤ v) × (10 * v + (x - 48) ≤ 65535)))
  unfolding digit_fits
  fits_says fits =
      let both = (and-eq-true_iff (is_digit x) (first || (leb 1 v && leb (10 * v + (x - 48)) 65535))).0 fits in
      (both.0, (or_says first _ (λ e. e, λ e. e) (and_says _ _ (leb_says 1 v) (leb_says (10 * v + (x - 48)) 65535))).0 both.1)

first_fits : (v x : ℕ) → digit_fits true v x ≡ false → is_digit x ≡ false
first_fits v x h = by_test (is_digit x) (λ y. absurd (false≢true (sym h ∙ fits_any true v x y refl))) (λ n. n)

next_fits : (v x : ℕ) → digit_fits false v x ≡ false → is_digit x ≡ true → 1 ≤ v → 65535 < 10 * v + (x - 48)
next_fits v x h y l = leb-false (10 * v + (x - 48)) 65535 (sym (fits_more false v x y refl l) ∙ h)

decimal_long : (v : ℕ) → 0 < length (decimal v)
decimal_long v = dite (dec_lt v 10) (λ l. rw (decimal_small v l) (omega arith)) (λ g. rw (decimal_more v (omega arith)) (simp length-append (omega arith)))

-- ---- one digit more

pub digit_says : (x : ℕ) → is_digit x ≡ true → (48 ≤ x) × (x ≤ 57)
digit_says x y = (and_says _ _ (leb_says 48 x) (leb_says x 57)).0 y

digit_behind : (v x : ℕ) → is_digit x ≡ true → 1 ≤ v → decimal (10 * v + (x - 48)) ≡ decimal v ++ (x ∷ [])
digit_behind v x y l =
    let d = digit_says x y in
    let front : (10 * v + (x - 48)) / 10 ≡ v = omega arith in
    let last : 48 + (10 * v + (x - 48)) % 10 ≡ x = omega arith in
    decimal_more (10 * v + (x - 48)) (omega arith) ∙ rw (front, last)

-- v and k with the digit x of t behind them
abbrev Next : List ℕ → ℕ → ℕ → ℕ → Type 0
Next t v k x = (48 ≤ x) × (10 * v + (x - 48) < 65536) × Came t (10 * v + (x - 48)) (k + 1)

module _ (t : List ℕ) where
  next_first : 0 < length t → digit_fits true 0 (get_or t 0 0) ≡ true → Next t 0 0 (get_or t 0 0)
  next_first inside fits =
      let x = get_or t 0 0 in
      let d = digit_says x (fits_says true 0 x fits).0 in
      let value : 10 * 0 + (x - 48) ≡ x - 48 = omega arith in
      let digit : 48 + (x - 48) ≡ x = omega arith in
      (d.0, omega arith, inr (take-suc t 0 0 inside ∙ sym (ap decimal value ∙ decimal_small (x - 48) (omega arith) ∙ ap (λ (y : ℕ). y ∷ []) digit)))

  next_later : (v k : ℕ) → k < length t → take k t ≡ decimal v → digit_fits false v (get_or t k 0) ≡ true → Next t v k (get_or t k 0)
  next_later v k inside came fits =
      let x = get_or t k 0 in
      let says = fits_says false v x fits in
      ⊎_elim (λ e. absurd (false≢true e))
      (λ more. ((digit_says x says.0).0, omega (arith, more.1), inr (rw add-one (take-suc t k 0 inside) ∙ ap (λ (p : List ℕ). p ++ (x ∷ [])) came ∙ sym (digit_behind v x says.0 more.0))))
      says.1

  pub digit_next : (v k : ℕ) → k < length t → Came t v k → digit_fits (eqb k 0) v (get_or t k 0) ≡ true → Next t v k (get_or t k 0)
  digit_next v k inside came fits =
      by_same k 0
      (λ e. at_first e came fits)
      (λ ne. ⊎_elim (λ none. absurd (ne none.0)) (λ digits. next_later v k inside digits (rw (ne_eqb k 0 ne) at fits)) came)
    where
      at_first : k ≡ 0 → Came t v k → digit_fits (eqb k 0) v (get_or t k 0) ≡ true → Next t v k (get_or t k 0)
      at_first e came fits =
          let none : v ≡ 0 = ⊎_elim (λ p. p.1) (λ digits. absurd (omega (arith, decimal_long v, ap length (sym digits ∙ ap (λ (j : ℕ). take j t) e)))) came in
          rw (e, none) (next_first (omega arith) (rw (e, none) at fits))

-- ---- the whole number

module _ (b : ℕ) (other : is_digit b ≡ false) (M : ℕ → List ℕ → Type 0) (t : List ℕ) where
  pub number_from : (v k : ℕ) → v < 65536 → k ≤ length t → take k t ≡ number_then v b → From (Num b M) t k (M v)
  number_from v k l within e =
      let same : (s : List ℕ) → take k t ++ s ≡ decimal v ++ (b ∷ s) = λ s. ap (λ (p : List ℕ). p ++ s) e ∙ number_then_append v b s in
      record {
        within = within;
        forth = λ s n. let z = number_once b other v n.v s n.s (sym (same s) ∙ n.is) in subst (λ (u : List ℕ). M v u) (sym z.1) (subst (λ (w : ℕ). M w n.s) (sym z.0) n.more);
        back = λ s m. record { v = v; s = s; small = l; is = same s; more = m };
      }

  -- ---- stopped in a number

  -- behind a 0 only the byte can come
  only_zero : (v w x : ℕ) (s u : List ℕ) → v ≡ 0 → decimal v ++ (x ∷ s) ≡ decimal w ++ (b ∷ u) → x ≡ b
  only_zero v w x s u e z =
      let zero-text : decimal 0 ≡ 48 ∷ [] = decimal_small 0 (omega arith) in
      let front : 48 ∷ x ∷ s ≡ decimal w ++ (b ∷ u) = ap (λ (q : List ℕ). q ++ (x ∷ s)) (sym (ap decimal e ∙ zero-text)) ∙ z in
      let none = zero_first w (b ∷ u) (sym (ap (λ (p : List ℕ). get_or p 0 0) front)) in
      ap (λ (p : List ℕ). get_or p 1 0) (front ∙ ap (λ (q : List ℕ). q ++ (b ∷ u)) (ap decimal none ∙ zero-text))

  module _ (some : (v : ℕ) → v < 65536 → Begins (M v) []) where
    -- it goes on with the byte
    goes_on : (v : ℕ) (p : List ℕ) → v < 65536 → p ≡ decimal v → Begins (Num b M) p
    goes_on v p l e =
        let m = some v l in
        record { rest = b ∷ m.rest; text = record { v = v; s = m.rest; small = l; is = ap (λ (q : List ℕ). q ++ (b ∷ m.rest)) e; more = m.text } }

    no_digit_yet : (0 < length t → digit_fits true 0 (get_or t 0 0) ≡ false) → Stops (Num b M) t 0 false
    no_digit_yet h =
        let z = goes_on 0 (decimal 0) (omega arith) refl in
        stuck (Num b M) t 0 (omega arith) (record { rest = decimal 0 ++ z.rest; text = z.text })
        (λ n. absurd (omega (arith, ap length n.is, length-append (decimal n.v) (b ∷ n.s))))
        (λ l s n. absurd (false≢true (sym (first_fits 0 _ (h l)) ∙ ap (λ (p : List ℕ). is_digit (get_or p 0 0)) n.is ∙ first_digit n.v (b ∷ n.s))))

    behind_digits : (v k : ℕ) → v < 65536 → k ≤ length t → 0 < k → take k t ≡ decimal v → (k < length t → digit_fits false v (get_or t k 0) ≡ false)
        → (k < length t → get_or t k 0 ≡ b → ⊥) → Stops (Num b M) t k false
    behind_digits v k l within positive e no_digit no_after =
        stuck (Num b M) t k within (goes_on v (take k t) l e)
        (λ n. number_ends b other v n.v n.s (append-nil (decimal v) ∙ sym e ∙ n.is))
        (λ more s n. after more s n.v n.s n.small (ap (λ (p : List ℕ). p ++ (get_or t k 0 ∷ s)) (sym e) ∙ n.is))
      where
        after : k < length t → (s : List ℕ) (w : ℕ) (u : List ℕ) → w < 65536 → decimal v ++ (get_or t k 0 ∷ s) ≡ decimal w ++ (b ∷ u) → ⊥
        after more s w u small z =
            by_test (is_digit (get_or t k 0))
            (λ y. dite (dec_lt v 1)
            (λ none. false≢true (sym other ∙ sym (ap is_digit (only_zero v w (get_or t k 0) s u (omega arith) z)) ∙ y))
            (λ g. absurd (omega (arith, next_fits v (get_or t k 0) (no_digit more) y (omega arith), number_more b other v w (get_or t k 0) s u y z))))
            (λ n. no_after more (number_other b other v w (get_or t k 0) s u n z))

    pub number_breaks : (v k : ℕ) → v < 65536 → k ≤ length t → NumberBreaks b t v k → Stops (Num b M) t k false
    number_breaks v k l within broken =
        ⊎_elim
        (λ none. at_start none.0 none.1 broken)
        (λ digits. let positive : 0 < k = omega (arith, decimal_long v, ap length digits, length-take-le k t within) in
        behind_digits v k l within positive digits (λ h. rw (ne_eqb k 0 (λ e. absurd (omega (arith, e)))) at (broken.no_digit h)) (λ h. broken.no_after h positive))
        broken.came
      where
        at_start : k ≡ 0 → v ≡ 0 → NumberBreaks b t v k → Stops (Num b M) t k false
        at_start e z n = rw e (no_digit_yet (rw (e, z) at n.no_digit))

-- ---- the walk over a number that begins at byte a: its digits so far are those of v, and byte i comes next

module _ (t : List ℕ) (a i v : ℕ) (start : a ≤ i) (small : v < 65536) (came : Came (drop a t) v (i - a)) where
  module _ (inside : i < length t) where
    there : i - a < length (drop a t)
    there = omega (arith, length-drop a t)

    here : get_or (drop a t) (i - a) 0 ≡ get_or t i 0
    here = let z : a + (i - a) ≡ i = omega arith in get_or-drop a t (i - a) 0 ∙ ap (λ (k : ℕ). get_or t k 0) z

    next : i - a + 1 ≡ i + 1 - a
    next = omega arith

    -- the byte behind it
    pub whole_number : (after : ℕ) → a < i → get_or t i 0 ≡ after → NumberAt after t a (Ok (record { value = v; end = i + 1 }))
    unfolding number_then
    whole_number after positive e =
        record { past = omega arith; within = omega arith; bytes = record { small = small; is = ap (λ (k : ℕ). take k (drop a t)) (sym next) ∙ by_digits came } }
      where
        by_digits : Came (drop a t) v (i - a) → take (i - a + 1) (drop a t) ≡ decimal v ++ (after ∷ [])
        by_digits =
            ⊎_elim (λ none. absurd (omega (arith, none.0)))
            (λ digits. rw add-one (take-suc (drop a t) (i - a) 0 there) ∙ ap (λ (p : List ℕ). p ++ (get_or (drop a t) (i - a) 0 ∷ [])) digits ∙ ap (λ (x : ℕ). decimal v ++ (x ∷ [])) (here ∙ e))

-- ---- the same walk over the part of the text that is lent from byte a on, with k bytes of the number so far

abbrev pub rest_of : List ℕ → ℕ → List ℕ
rest_of t a = take (length t - a) (drop a t)

pub rest_is : (t : List ℕ) (a : ℕ) → rest_of t a ≡ drop a t
rest_is t a = take_all (length t - a) (drop a t) (omega (arith, length-drop a t))

module _ (t : List ℕ) (a k v : ℕ) (within : a ≤ length t) (small : v < 65536) (came : Came (rest_of t a) v k) where
  is : rest_of t a ≡ drop a t
  is = rest_is t a

  back : a + k - a ≡ k
  back = omega arith

  there_came : Came (drop a t) v (a + k - a)
  there_came = rw (back, ← is) came

  module _ (inside : k < length (rest_of t a)) where
    there_inside : a + k < length t
    there_inside = omega (arith, ap length is, length-drop a t)

    byte_here : get_or t (a + k) 0 ≡ get_or (rest_of t a) k 0
    byte_here = rw is (sym (get_or-drop a t k 0))

    -- one digit more
    pub digit_rest : digit_fits (eqb k 0) v (get_or (rest_of t a) k 0) ≡ true → Next (rest_of t a) v k (get_or (rest_of t a) k 0)
    digit_rest fits = digit_next (rest_of t a) v k inside came fits

    -- the byte behind it
    pub number_rest : (after : ℕ) → 0 < k → get_or (rest_of t a) k 0 ≡ after → NumberAt after t a (Ok (record { value = v; end = a + k + 1 }))
    number_rest after positive e = whole_number t a (a + k) v (omega arith) small there_came there_inside after (omega arith) (byte_here ∙ e)

  -- no further
  pub stuck_rest : (after : ℕ) → k ≤ length (rest_of t a) → (k < length (rest_of t a) → digit_fits (eqb k 0) v (get_or (rest_of t a) k 0) ≡ false) → (k < length (rest_of t a) → 0 < k → get_or (rest_of t a) k 0 ≡ after → ⊥)
      → NumberAt after t a (Err (record { 0 = a + k }))
  stuck_rest after l no_digit no_after =
      record {
        past = omega arith;
        within = omega (arith, ap length is, length-drop a t);
        breaks = rw (back, ← is) (record { v = v; small = small; breaks = record { came = came; no_digit = no_digit; no_after = no_after } });
      }
