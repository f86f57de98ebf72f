-- Where the form breaks: at the end of the longest beginning of a text of the form, told as a line and a byte in it.
use Rattle.std.specs.Prelude.{◌≡◌, cond, List, [], ◌∷◌, ◌++◌, ℕ, ◌+◌, ◌≤◌, ◌<◌, eqb, length, take}
use Rattle.words.specs.declared.Place.{Place}
use Rattle.words.specs.declared.Reason.TheVariants as reason
use Rattle.words.specs.Verdict.{Verdict, refuse, at_line}
use Rattle.form.specs.Form.{newline, IsText}

-- ---- beginnings, of any texts L

-- t could go on: it is the beginning of one of the texts
pub record Begins (L : List ℕ → Type 0) (t : List ℕ) : Type 0 where
  pub rest : List ℕ
  pub text : L (t ++ rest)

-- the longest beginning that t has is its first k bytes
pub record Longest (L : List ℕ → Type 0) (t : List ℕ) (k : ℕ) : Type 0 where
  pub within : k ≤ length t
  pub begins : Begins L (take k t)
  pub no_longer : (j : ℕ) → k < j → j ≤ length t → Begins L (take j t) → ⊥

-- ---- the place behind some bytes

-- the line, counted on from line p, and the byte in it, counted on from byte q
unfoldable pub line_from : ℕ → List ℕ → ℕ
line_from p [] = p
line_from p (b ∷ s) = line_from (cond (eqb b newline) (p + 1) p) s

unfoldable pub byte_from : ℕ → List ℕ → ℕ
byte_from q [] = q
byte_from q (b ∷ s) = byte_from (cond (eqb b newline) 0 (q + 1)) s

-- the line from 1, and the byte from 0
unfoldable pub place_behind : List ℕ → Place
place_behind s = at_line (line_from 1 s) (byte_from 0 s)

-- ---- the refusals

-- 31: the longest beginning of t is no whole text; 32: it is one, and more follows
pub data BreaksAs (t : List ℕ) (v : Verdict) : Type 0 where
  breaks : (k : ℕ) → Longest IsText t k → (IsText (take k t) → ⊥) → v ≡ refuse reason.TextBreaks (place_behind (take k t)) → BreaksAs t v
  follows : (k : ℕ) → Longest IsText t k → IsText (take k t) → k < length t → v ≡ refuse reason.TextGoesOn (place_behind (take k t)) → BreaksAs t v
