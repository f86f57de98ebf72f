-- One round as a call: its answer, and by the answer what becomes of the lent memory.
use Rattle.std.specs.Prelude.{◌≡◌, List, ℕ, length, drop, Option, None, Some, Ok, Err}
use Rattle.laws.specs.Row.{at}
use Rattle.words.specs.Verdict.{Verdict, answer}
use Rattle.job.specs.declared.Job.{Job}
use Rattle.job.specs.Job.{n_in, job_in}
use Rattle.job.specs.Board.{board_of}
use Rattle.board.specs.Rule.{Recoloured}
use Rattle.scratch.specs.Scratch.{scratch_long, cleared}
use Rattle.search.specs.declared.Over.{Over}
use Rattle.search.specs.Search.{search_of}
use Rattle.recolour.specs.Recolour.{RecolouredIn}
use Rattle.refusals.specs.Start.{round_verdict}
use Rattle.round.specs.Answer.{Round}

-- ---- the answer

-- refused; or what the search names
abbrev pub round_answer : Verdict → Option Over → Round
round_answer v over = answer v over

-- ---- the lent memory: plan₀ and s₀ have become plan and s

-- nothing was written
pub record Untouched (plan₀ plan s₀ s : List ℕ) : Type 0 where
  pub plan_same : plan ≡ plan₀
  pub scratch_same : s ≡ s₀

-- after an accepted call: beyond the n nets nothing was written, and the scratch is zero
pub record Accepted (job plan₀ plan s₀ s : List ℕ) : Type 0 where
  pub long : length plan ≡ length plan₀
  pub beyond : drop (n_in job) plan ≡ drop (n_in job) plan₀
  pub scratch_zero : s ≡ cleared scratch_long s₀

-- by the answer: settled and refused leave the assignment as it was, and a round recolours A and B by the rule
abbrev pub RoundMemory : Round → List ℕ → List ℕ → List ℕ → List ℕ → List ℕ → Type 0
RoundMemory (Ok None) job plan₀ plan s₀ s = (plan ≡ plan₀) × Accepted job plan₀ plan s₀ s
RoundMemory (Ok (Some over)) job plan₀ plan s₀ s = Recoloured (job_in job) (at plan₀) (at plan) over.crowded.0 over.room.0 × Accepted job plan₀ plan s₀ s
RoundMemory (Err r) job plan₀ plan s₀ s = Untouched plan₀ plan s₀ s

pub record OneRound (job plan₀ plan s₀ s : List ℕ) (r : Round) : Type 0 where
  pub answer : r ≡ round_answer (round_verdict job plan₀ (length s₀)) (search_of (job_in job) (at plan₀))
  pub memory : RoundMemory r job plan₀ plan s₀ s

-- ---- the step inside a round or finish, which leaves its work in the scratch

abbrev pub StepMemory : Option Over → Job → List ℕ → List ℕ → List ℕ → List ℕ → Type 0
StepMemory None job plan₀ plan s₀ s = Untouched plan₀ plan s₀ s
StepMemory (Some over) job plan₀ plan s₀ s = RecolouredIn job plan₀ plan over.crowded.0 over.room.0 s₀ s

pub record Stepped (job : Job) (plan₀ plan s₀ s : List ℕ) (r : Option Over) : Type 0 where
  pub named : r ≡ search_of (board_of job) (at plan₀)
  pub memory : StepMemory r job plan₀ plan s₀ s
