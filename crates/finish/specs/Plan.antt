-- Plan as a call: the deal, then finish.
use Rattle.std.specs.Prelude.{List, ℕ, length}
use Rattle.laws.specs.Row.{at, row}
use Rattle.words.specs.Lent.{onto}
use Rattle.board.specs.Netlist.{Netlist}
use Rattle.board.specs.Board.{deal}
use Rattle.job.specs.Job.{job_in}
use Rattle.round.specs.Round.{Finished, Planned}
use Rattle.refusals.specs.Start.{plan_verdict}
use Rattle.round.specs.OneRound.{Untouched, Accepted}
use Rattle.finish.specs.Answer.{Finish}
use Rattle.finish.specs.Finish.{AnsweredBy}

-- the first n nets dealt into the room for them
unfoldable pub dealt_up_to : Netlist → ℕ → List ℕ → List ℕ
dealt_up_to J n room = onto (row (deal J) n) room

abbrev pub dealt : Netlist → List ℕ → List ℕ
dealt J room = dealt_up_to J J.n room

-- k rounds from the deal to a legal and balanced plan, from the deal's excess e
pub record PlannedIn (job plan₀ plan s₀ s : List ℕ) (k e : ℕ) : Type 0 where
  pub finished : Finished (job_in job) (at (dealt (job_in job) plan₀)) (at plan) k e
  pub planned : Planned (job_in job) (at plan)
  pub memory : Accepted job plan₀ plan s₀ s

pub record PlanCall (job plan₀ plan s₀ s : List ℕ) (r : Finish) : Type 0 where
  pub answered : AnsweredBy (plan_verdict job (length plan₀) (length s₀)) r (Untouched plan₀ plan s₀ s) (PlannedIn job plan₀ plan s₀ s)
