-- Finish as a call: its answer, and by the answer what becomes of the lent memory.
use Rattle.std.specs.Prelude.{◌≡◌, List, ℕ, length, drop, Ok, Err}
use Rattle.laws.specs.Row.{at}
use Rattle.words.specs.Verdict.{Verdict}
use Rattle.job.specs.declared.Job.{Job}
use Rattle.job.specs.Job.{job_in}
use Rattle.job.specs.Board.{board_of}
use Rattle.board.specs.Board.{Legal}
use Rattle.scratch.specs.Scratch.{scratch_long}
use Rattle.round.specs.Round.{Chain, Finished}
use Rattle.refusals.specs.Start.{round_verdict, Ready}
use Rattle.round.specs.OneRound.{Untouched, Accepted}
use Rattle.finish.specs.Answer.{Finish}

-- a refusal is answered with exactly that refusal, and then `kept` holds; otherwise k rounds and excess e are answered, and `made k e` holds
abbrev pub AnsweredBy : Verdict → Finish → Type 0 → (ℕ → ℕ → Type 0) → Type 0
AnsweredBy (Err q) (Err r) kept made = (r ≡ q) × kept
AnsweredBy (Err q) (Ok rounds) kept made = ⊥
AnsweredBy (Ok _) (Err r) kept made = ⊥
AnsweredBy (Ok _) (Ok rounds) kept made = made rounds.made rounds.excess

-- k rounds from plan₀ to a legal plan, from the starting excess e
pub record FinishedIn (job plan₀ plan s₀ s : List ℕ) (k e : ℕ) : Type 0 where
  pub finished : Finished (job_in job) (at plan₀) (at plan) k e
  pub memory : Accepted job plan₀ plan s₀ s

pub record FinishCall (job plan₀ plan s₀ s : List ℕ) (r : Finish) : Type 0 where
  pub answered : AnsweredBy (round_verdict job plan₀ (length s₀)) r (Untouched plan₀ plan s₀ s) (FinishedIn job plan₀ plan s₀ s)

-- ---- the rounds inside, which leave their work in the scratch

-- k rounds were made, and another may be
pub record Chained (job : Job) (plan₀ plan s₀ s : List ℕ) (k : ℕ) : Type 0 where
  pub ready : Ready job plan s
  pub chain : Chain (board_of job) (at plan₀) k (at plan)
  pub long : length plan ≡ length plan₀
  pub beyond : drop job.head.n plan ≡ drop job.head.n plan₀
  pub scratch_is_long : length s ≡ length s₀
  pub scratch_beyond : drop scratch_long s ≡ drop scratch_long s₀

-- and no other is needed
pub record SettledIn (job : Job) (plan₀ plan s₀ s : List ℕ) (k : ℕ) : Type 0 where
  pub chained : Chained job plan₀ plan s₀ s k
  pub legal : Legal (board_of job) (at plan)
