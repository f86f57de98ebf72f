-- The lines of a listing, as document 01 has them.
use Rattle.std.specs.Prelude.{List, [], ◌∷◌, ◌++◌, ℕ, Err}
use Rattle.words.specs.declared.Refusal.{Refusal}
use Rattle.words.specs.Verdict.{Verdict, number_of, p_of, q_of}
use Rattle.job.specs.Job.{f_in, c_in, m_in, n_in}
use Rattle.board.specs.Netlist.{Netlist}
use Rattle.board.specs.Board.{total}
use Rattle.text.specs.Forms.{spaced, line}

-- ---- the words, in the bytes of their letters

-- "board"
abbrev pub board_word : List ℕ
board_word = 98 ∷ 111 ∷ 97 ∷ 114 ∷ 100 ∷ []

-- "rounds", and " excess" behind its number
abbrev pub rounds_word : List ℕ
rounds_word = 114 ∷ 111 ∷ 117 ∷ 110 ∷ 100 ∷ 115 ∷ []

abbrev pub excess_word : List ℕ
excess_word = 32 ∷ 101 ∷ 120 ∷ 99 ∷ 101 ∷ 115 ∷ 115 ∷ []

-- "net"
abbrev pub net_word : List ℕ
net_word = 110 ∷ 101 ∷ 116 ∷ []

-- "crossbar"
abbrev pub crossbar_word : List ℕ
crossbar_word = 99 ∷ 114 ∷ 111 ∷ 115 ∷ 115 ∷ 98 ∷ 97 ∷ 114 ∷ []

-- "refused"
abbrev pub refused_word : List ℕ
refused_word = 114 ∷ 101 ∷ 102 ∷ 117 ∷ 115 ∷ 101 ∷ 100 ∷ []

-- ---- the lines

-- f, c, m and n
abbrev pub board_line : List ℕ → List ℕ
board_line job = line board_word (f_in job ∷ c_in job ∷ m_in job ∷ n_in job ∷ [])

-- k rounds, and the excess s before the first
unfoldable pub rounds_line : ℕ → ℕ → List ℕ
rounds_line k s = rounds_word ++ (spaced k ++ (excess_word ++ (spaced s ++ (10 ∷ []))))

-- net i: its number, both FPGAs, its crossbar
abbrev pub net_line : Netlist → (ℕ → ℕ) → ℕ → List ℕ
net_line J a i = line net_word (i ∷ J.first i ∷ J.second i ∷ a i ∷ [])

-- crossbar x: its number and its total
abbrev pub crossbar_line : Netlist → (ℕ → ℕ) → ℕ → List ℕ
crossbar_line J a x = line crossbar_word (x ∷ total J a x ∷ [])

-- a verdict in numbers: its own, p and q
abbrev pub verdict_text : Verdict → List ℕ
verdict_text v = spaced (number_of v) ++ (spaced (p_of v) ++ spaced (q_of v))

-- a refusal: its three numbers
unfoldable pub refusal_line : Refusal → List ℕ
refusal_line r = refused_word ++ (verdict_text (Err r) ++ (10 ∷ []))
