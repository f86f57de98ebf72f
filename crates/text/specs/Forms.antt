-- How things are written, in the bytes of their letters: 32 is a space, 48 the digit 0 and 10 the end of a line.
use Rattle.std.specs.Prelude.{cond, List, [], ◌∷◌, ◌++◌, ℕ, zero, suc, ◌+◌, ◌/◌, ◌%◌, ltb, length}
use Rattle.laws.specs.Row.{at}
use Rattle.text.specs.Text.{each}

-- n in decimal, in k + 1 digits or fewer
unfoldable pub decimal_by : ℕ → ℕ → List ℕ
decimal_by zero n = (48 + n) ∷ []
decimal_by (suc k) n = cond (ltb n 10) ((48 + n) ∷ []) (decimal_by k (n / 10) ++ ((48 + n % 10) ∷ []))

-- n in decimal, with no zero in front but for 0 itself
unfoldable pub decimal : ℕ → List ℕ
decimal n = decimal_by n n

-- a number behind a space, and each number of a list so
unfoldable pub spaced : ℕ → List ℕ
spaced n = 32 ∷ decimal n

abbrev pub all_spaced : List ℕ → List ℕ
all_spaced ns = each (λ i. spaced (at ns i)) (length ns)

-- a line: a word and its numbers
unfoldable pub line : List ℕ → List ℕ → List ℕ
line word ns = word ++ (all_spaced ns ++ (10 ∷ []))
