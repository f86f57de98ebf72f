-- A job as text: `board 3`, three lines with f, c and m, `nets` and their count, then a line for each net with its two numbers.
use Rattle.std.specs.Prelude.{◌≡◌, List, [], ◌∷◌, ◌++◌, ℕ, ◌*◌, ◌<◌, length, get_or}
use Rattle.text.specs.Letters.{letters}
use Rattle.text.specs.Forms.{decimal}

-- ---- the lines

-- the end of a line, and a space
abbrev pub newline : ℕ
newline = 10

abbrev pub space : ℕ
space = 32

abbrev pub board_line : List ℕ
board_line = letters "board 3\n"

abbrev pub nets_word : List ℕ
nets_word = letters "nets "

-- a number, and the byte behind it
unfoldable pub number_then : ℕ → ℕ → List ℕ
number_then x b = decimal x ++ (b ∷ [])

-- a net's line: its two numbers
unfoldable pub net_line : ℕ → ℕ → List ℕ
net_line v w = number_then v space ++ number_then w newline

-- ---- the text

-- `board 3` and the three numbers
unfoldable pub board_text : ℕ → ℕ → ℕ → List ℕ
board_text f c m = board_line ++ (number_then f newline ++ (number_then c newline ++ number_then m newline))

-- `nets` and their count
unfoldable pub count_text : ℕ → List ℕ
count_text n = nets_word ++ number_then n newline

-- the lines of the nets, of a list with two numbers for each
unfoldable pub nets_text : List ℕ → List ℕ
nets_text [] = []
nets_text (v ∷ []) = []
nets_text (v ∷ w ∷ ends) = net_line v w ++ nets_text ends

-- the text of f, c, m, n and the nets
unfoldable pub text_of : ℕ → ℕ → ℕ → ℕ → List ℕ → List ℕ
text_of f c m n ends = board_text f c m ++ (count_text n ++ nets_text ends)

-- ---- the texts of this form

-- two numbers for each of n nets, and no number above 65,535
pub record EndsOf (n : ℕ) (ends : List ℕ) : Type 0 where
  pub long : length ends ≡ 2 * n
  pub small : (i : ℕ) → get_or ends i 0 < 65536

pub record InForm (f c m n : ℕ) (ends : List ℕ) : Type 0 where
  pub f_small : f < 65536
  pub c_small : c < 65536
  pub m_small : m < 65536
  pub n_small : n < 65536
  pub nets : EndsOf n ends

-- t is such a text
pub record IsText (t : List ℕ) : Type 0 where
  pub f : ℕ
  pub c : ℕ
  pub m : ℕ
  pub n : ℕ
  pub ends : List ℕ
  pub in_form : InForm f c m n ends
  pub is : t ≡ text_of f c m n ends

-- t is the lines of n nets
pub record IsNets (n : ℕ) (t : List ℕ) : Type 0 where
  pub ends : List ℕ
  pub of : EndsOf n ends
  pub is : t ≡ nets_text ends
