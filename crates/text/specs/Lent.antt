-- A text in a caller's own room.
use Rattle.std.specs.Prelude.{◌≡◌, List, ℕ}
use Rattle.text.specs.Text.{Text, up_to, puts}
use Rattle.text.specs.declared.Text as declared

-- the room as it stands, up to where the text ends
abbrev pub text_so_far : declared.Text → Text
text_so_far t = up_to t.room.now t.end

-- letters were put behind a text, in the same room
pub record Gains (t₀ t : declared.Text) (letters : List ℕ) : Type 0 where
  pub same_room : t.room.ghost_name ≡ t₀.room.ghost_name
  pub value : text_so_far t ≡ puts (text_so_far t₀) letters
