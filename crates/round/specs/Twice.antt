-- Two runs of one round from `plan₀` on the same input: `plan` and `s` are what the first leaves, `plan'` and `s'` what the second leaves.
use Rattle.std.specs.Prelude.{◌≡◌, ◌≢◌, List, ℕ, ◌<◌, length, drop, None, Some, Ok, Err}
use Rattle.laws.specs.Row.{at}
use Rattle.board.specs.Board.{total}
use Rattle.job.specs.Job.{n_in, job_in}
use Rattle.round.specs.Answer.{Round}

-- they differ in the n numbers of the assignment at most
pub record SameBeyond (job plan plan' s s' : List ℕ) : Type 0 where
  pub long : length plan ≡ length plan'
  pub beyond : drop (n_in job) plan ≡ drop (n_in job) plan'
  pub scratch : s ≡ s'

-- and if a round was made on crossbars A and B, in the nets there at most, with the same totals on all crossbars
pub record SameMoved (job plan₀ plan plan' s s' : List ℕ) (A B : ℕ) : Type 0 where
  pub same : SameBeyond job plan plan' s s'
  pub elsewhere : (i : ℕ) → i < n_in job → at plan₀ i ≢ A → at plan₀ i ≢ B → at plan i ≡ at plan' i
  pub totals : (x : ℕ) → total (job_in job) (at plan) x ≡ total (job_in job) (at plan') x

-- by the answer; settled or refused they leave the same
abbrev pub RoundTwice : Round → List ℕ → List ℕ → List ℕ → List ℕ → List ℕ → List ℕ → Type 0
RoundTwice (Ok None) job plan₀ plan plan' s s' = (plan ≡ plan') × (s ≡ s')
RoundTwice (Ok (Some over)) job plan₀ plan plan' s s' = SameMoved job plan₀ plan plan' s s' over.crowded.0 over.room.0
RoundTwice (Err r) job plan₀ plan plan' s s' = (plan ≡ plan') × (s ≡ s')

pub record SameRound (job plan₀ plan plan' s s' : List ℕ) (r r' : Round) : Type 0 where
  pub answer : r ≡ r'
  pub memory : RoundTwice r job plan₀ plan plan' s s'
