-- A text in lent memory: a room, and the byte of it where the text ends.
use Rattle.std.specs.Prelude.{cond, List, [], ◌∷◌, ◌++◌, ℕ, zero, suc, ◌+◌, ltb, length, set}

pub record Text : Type 0 where
  pub room : List ℕ
  pub end : ℕ

abbrev pub up_to : List ℕ → ℕ → Text
up_to room end = record { room = room; end = end }

-- one byte more; nothing where the room is full
unfoldable pub put : Text → ℕ → Text
put t b = cond (ltb t.end (length t.room)) (up_to (set t.room t.end b) (t.end + 1)) t

-- some bytes more, one after the other
unfoldable pub puts : Text → List ℕ → Text
puts t [] = t
puts t (b ∷ s) = puts (put t b) s

-- the texts f 0, f 1, .., f (n - 1), one behind the other
unfoldable pub each : (ℕ → List ℕ) → ℕ → List ℕ
each f zero = []
each f (suc n) = each f n ++ f n
