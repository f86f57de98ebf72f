-- Recolouring two crossbars x and y, called A and B in document 01, in a lent assignment `plan` and with a lent scratch s.
use Rattle.std.specs.Prelude.{◌≡◌, List, ◌≢◌, ℕ, ◌≤◌, length, drop}
use Rattle.laws.specs.Row.{at}
use Rattle.job.specs.declared.Job.{Job}
use Rattle.job.specs.Board.{board_of}
use Rattle.board.specs.Rule.{Recoloured}
use Rattle.scratch.specs.Scratch.{scratch_long}

-- what is asked: a number for each net, two crossbars, and a scratch of the least length or more
pub record RecolourAsked (job : Job) (plan : List ℕ) (x y : ℕ) (s : List ℕ) : Type 0 where
  pub every_net : job.head.n ≤ length plan
  pub two : x ≢ y
  pub scratch : scratch_long ≤ length s

-- plan₀ and s₀ have become plan and s: the rule of a round holds, and what lies beyond the n nets and beyond the least length is as it was
pub record RecolouredIn (job : Job) (plan₀ plan : List ℕ) (x y : ℕ) (s₀ s : List ℕ) : Type 0 where
  pub rule : Recoloured (board_of job) (at plan₀) (at plan) x y
  pub plan_long : length plan ≡ length plan₀
  pub plan_beyond : drop job.head.n plan ≡ drop job.head.n plan₀
  pub scratch_is_long : length s ≡ length s₀
  pub scratch_beyond : drop scratch_long s ≡ drop scratch_long s₀
