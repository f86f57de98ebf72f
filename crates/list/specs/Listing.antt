-- The listing of a plan, line by line as document 01 has it.
use Rattle.std.specs.Prelude.{◌≡◌, List, ◌++◌, ℕ, ◌≤◌, length, Ok, Err}
use Rattle.laws.specs.Row.{at}
use Rattle.job.specs.Job.{c_in, n_in, job_in}
use Rattle.finish.specs.Answer.{Finish}
use Rattle.finish.specs.Plan.{PlanCall}
use Rattle.text.specs.Text.{up_to, puts, each}
use Rattle.lines.specs.Lines.{board_line, rounds_line, net_line, crossbar_line, refusal_line}

-- a plan of k rounds, from the excess s
unfoldable pub plan_lines : List ℕ → List ℕ → ℕ → ℕ → List ℕ
plan_lines job plan k s =
    board_line job ++ (rounds_line k s ++ (each (net_line (job_in job) (at plan)) (n_in job) ++ each (crossbar_line (job_in job) (at plan)) (c_in job)))

abbrev pub listing_of : List ℕ → List ℕ → Finish → List ℕ
listing_of job plan (Ok rounds) = plan_lines job plan rounds.made rounds.excess
listing_of job plan (Err r) = refusal_line r

-- room for every listing: 4,096 net lines of at most 24 bytes, 128 crossbar lines of 19, and 50 bytes for the first two lines
abbrev pub listing_long : ℕ
listing_long = 100786

-- the call: plan's answer, its listing at the front of the room (cut where the room ends), and how much room is enough
pub record Listed (job plan₀ plan s₀ s room₀ room : List ℕ) (end : ℕ) : Type 0 where
  pub answer : Finish
  pub planned : PlanCall job plan₀ plan s₀ s answer
  pub listed : up_to room end ≡ puts (up_to room₀ 0) (listing_of job plan answer)
  pub short : length (listing_of job plan answer) ≤ listing_long
