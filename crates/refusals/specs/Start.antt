-- The refusals of plan (1 to 12) and of one round and finish (1 to 13), and what is known where there is none.
use Rattle.words.specs.declared.Reason.TheVariants as reason
use Rattle.std.specs.Prelude.{List, ℕ, ◌≤◌, length}
use Rattle.laws.specs.Row.{at}
use Rattle.words.specs.Verdict.{Verdict, ◌then◌}
use Rattle.job.specs.declared.Job.{Job}
use Rattle.job.specs.Job.{n_in, job_in}
use Rattle.job.specs.Board.{board_of}
use Rattle.job.specs.Check.{job_verdict}
use Rattle.board.specs.Board.{InRange, WithinLimits}
use Rattle.scratch.specs.Scratch.{scratch_long}
use Rattle.refusals.specs.Refusals.{room_verdict, degree_verdict, range_verdict}

-- refusals 1 to 12, which need no assignment: only how long the room for it is, and the scratch
unfoldable pub plan_verdict : List ℕ → ℕ → ℕ → Verdict
plan_verdict job plan_length scratch_length =
    job_verdict job then
    room_verdict (n_in job) plan_length scratch_length then
    degree_verdict (job_in job)

-- and 13, of a starting assignment
unfoldable pub round_verdict : List ℕ → List ℕ → ℕ → Verdict
round_verdict job plan scratch_length =
    plan_verdict job (length plan) scratch_length then
    range_verdict reason.Start (job_in job) (at plan)

-- what a job has that plan does not refuse
pub record Fitting (job : Job) (plan_length scratch_length : ℕ) : Type 0 where
  pub every_net : job.head.n ≤ plan_length
  pub scratch_is_long : scratch_long ≤ scratch_length
  pub within : WithinLimits (board_of job)

-- and with a starting assignment that a round does not refuse
pub record Ready (job : Job) (plan s : List ℕ) : Type 0 where
  pub fitting : Fitting job (length plan) (length s)
  pub in_range : InRange (board_of job) (at plan)
