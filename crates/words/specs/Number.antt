-- Numbers of two bytes, high byte first.
use Rattle.std.specs.Prelude.{List, [], ◌∷◌, ℕ, ◌+◌, ◌*◌, ◌/◌, ◌%◌, ◌<◌, length, get_or, set}

-- the number at byte i
unfoldable pub word : List ℕ → ℕ → ℕ
word s i = 256 * get_or s i 0 + get_or s (i + 1) 0

-- the bytes of a list of numbers
abbrev pub bytes : List ℕ → List ℕ
bytes [] = []
bytes (x ∷ xs) = x / 256 ∷ x % 256 ∷ bytes xs

-- a number written to byte i and the next
abbrev pub put_word : List ℕ → ℕ → ℕ → List ℕ
put_word s i x = set (set s i (x / 256)) (i + 1) (x % 256)

-- the numbers of a list of bytes; a byte left over at the end is none
abbrev pub numbers : List ℕ → List ℕ
numbers [] = []
numbers (h ∷ []) = []
numbers (h ∷ l ∷ s) = (256 * h + l) ∷ numbers s

-- every number of the list is a byte's
abbrev pub AreBytes : List ℕ → Type 0
AreBytes s = (i : ℕ) → i < length s → get_or s i 0 < 256
