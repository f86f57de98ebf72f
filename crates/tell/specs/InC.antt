-- An answer in C: the number that the call returns, and the four numbers that it writes for the caller.
use Rattle.std.specs.Prelude.{◌≡◌, List, [], ◌∷◌, ℕ, Option, None, Some, Result, Ok, Err}
use Rattle.words.specs.declared.Net.{Net}
use Rattle.words.specs.declared.Refusal.{Refusal}
use Rattle.words.specs.Verdict.{Verdict, number_of, p_of, q_of}
use Rattle.job.specs.declared.Head.{Head}
use Rattle.job.specs.Read.{NetEnds, section_from, section_long}
use Rattle.reader.specs.declared.Numbers.{Numbers}
use Rattle.search.specs.declared.Over.{Over}
use Rattle.round.specs.Answer.{Round}
use Rattle.finish.specs.Answer.{Finish}
use Rattle.evidence.specs.declared.File.{File}
use Rattle.evidence.specs.declared.File.TheVariants as file
use Rattle.evidence.specs.declared.Fault.{Fault}

abbrev pub four : ℕ → ℕ → ℕ → ℕ → List ℕ
four a b c d = a ∷ b ∷ c ∷ d ∷ []

-- what is returned, and what is written
abbrev pub InC : Type 0
InC = ℕ × List ℕ

-- the refusal's number; p and q
abbrev pub refusal_in_c : Refusal → InC
refusal_in_c r = (number_of (Err r), four (p_of (Err r)) (q_of (Err r)) 0 0)

-- 0 and what the answer says in four numbers; or the refusal
abbrev pub answer_in_c : {A : Type 0} → (A → List ℕ) → Result A Refusal → InC
answer_in_c in_four (Ok said) = (0, in_four said)
answer_in_c in_four (Err r) = refusal_in_c r

-- nothing more
abbrev pub verdict_in_c : Verdict → InC
verdict_in_c = answer_in_c (λ _. four 0 0 0 0)

-- so many bytes or numbers at the front of the room
abbrev pub written_in_c : Result ℕ Refusal → InC
written_in_c = answer_in_c (λ k. four k 0 0 0)

-- f, c, m and n
abbrev pub numbers_in_c : Numbers → List ℕ
numbers_in_c h = four h.f.0 h.c.0 h.m h.n.0

-- 1 and the two FPGAs; or 0
abbrev pub net_in_c : Option NetEnds → InC
net_in_c (Some ends) = (1, four ends.0.0 ends.1.0 0 0)
net_in_c None = (0, four 0 0 0 0)

-- the first byte of the nets, and how many bytes they are
abbrev pub section_in_c : Result Head Refusal → List ℕ
section_in_c checked = four (section_from checked) (section_long checked) 0 0

-- four zeros where the assignment is settled; or 1, the FPGA and the crossbars A and B
abbrev pub over_in_four : Option Over → List ℕ
over_in_four None = four 0 0 0 0
over_in_four (Some over) = four 1 over.fpga.0 over.crowded.0 over.room.0

abbrev pub round_in_c : Round → InC
round_in_c = answer_in_c over_in_four

-- the rounds, and the excess before the first
abbrev pub finish_in_c : Finish → InC
finish_in_c = answer_in_c (λ rounds. four rounds.made rounds.excess 0 0)

-- 0 for the job or 1 for the sheet
abbrev pub file_in_c : File → ℕ
file_in_c file.Job = 0
file_in_c file.Sheet = 1

-- the file, the first byte, and how many
abbrev pub fault_in_c : Fault → List ℕ
fault_in_c e = four (file_in_c e.file) e.start e.long 0

-- so many nets
abbrev pub room_in_c : Result Net Refusal → InC
room_in_c = answer_in_c (λ k. four k.0 0 0 0)

-- The call gave some answer, and this is that answer in C.
pub record Told (A : Type 0) (Call : A → Type 0) (in_c : A → InC) (told : InC) : Type 0 where
  pub answer : A
  pub call : Call answer
  pub tells : told ≡ in_c answer
