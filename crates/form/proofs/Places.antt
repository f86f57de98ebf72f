-- Lines and bytes, counted on byte by byte.
-- Assumes nothing.
use mathlib.Core.Path.{◌≡◌, sym, ap, ◌∙◌}
use mathlib.Core.Bool.{false}
use mathlib.Core.List.{List, [], ◌∷◌}
use Prim.Native.Nat.{ℕ, suc, ◌+◌, ◌≤◌, ◌<◌}
use native.Mathlib.Numerals.{add-one}
use native.Mathlib.Omega.{arith}
use lib.Dec.{eqb}
use lib.ListN.{length, get_or, drop}
use lib.Seq.{drop-cons, drop-length}
use borrow.Author.Tests.{ne_eqb}
use Rattle.words.specs.Verdict.{at_line}
use Rattle.form.specs.Form.{newline}
use Rattle.form.specs.Breaks.{line_from, byte_from, place_behind}

-- behind the first i bytes of s stands byte q of line p
pub record Reached (s : List ℕ) (p q i : ℕ) : Type 0 where
  pub line_low : p ≤ i + 1
  pub byte_low : q ≤ i
  pub line : line_from p (drop i s) ≡ line_from 1 s
  pub byte : byte_from q (drop i s) ≡ byte_from 0 s

line_same : (p b : ℕ) (s : List ℕ) → eqb b newline ≡ false → line_from p (b ∷ s) ≡ line_from p s
unfolding line_from
line_same p b s h = rw h

byte_next : (q b : ℕ) (s : List ℕ) → eqb b newline ≡ false → byte_from q (b ∷ s) ≡ byte_from (q + 1) s
unfolding byte_from
byte_next q b s h = rw h

module _ (s : List ℕ) (p q i : ℕ) (h : i < length s) (r : Reached s p q i) where
  pub past_newline : get_or s i 0 ≡ newline → Reached s (p + 1) 0 (i + 1)
  unfolding line_from byte_from
  past_newline e =
      let front : drop i s ≡ newline ∷ drop (i + 1) s = rw add-one (drop-cons s i 0 h ∙ ap (λ (b : ℕ). b ∷ drop (suc i) s) e) in
      record { line_low = omega (arith, r.line_low); byte_low = omega arith; line = sym (ap (line_from p) front) ∙ r.line; byte = sym (ap (byte_from q) front) ∙ r.byte }

  pub past_other : (get_or s i 0 ≡ newline → ⊥) → Reached s p (q + 1) (i + 1)
  past_other n =
      let front : drop i s ≡ get_or s i 0 ∷ drop (i + 1) s = rw add-one (drop-cons s i 0 h) in
      let no = ne_eqb (get_or s i 0) newline n in
      record { line_low = omega (arith, r.line_low); byte_low = omega (arith, r.byte_low); line = sym (ap (line_from p) front ∙ line_same p _ _ no) ∙ r.line; byte = sym (ap (byte_from q) front ∙ byte_next q _ _ no) ∙ r.byte }

pub reached_all : (s : List ℕ) (p q i : ℕ) → i ≡ length s → Reached s p q i → place_behind s ≡ at_line p q
unfolding place_behind line_from byte_from
reached_all s p q i e r =
    let none : drop i s ≡ [] = ap (λ (j : ℕ). drop j s) e ∙ drop-length s in
    rw (sym r.line, sym r.byte, none)
