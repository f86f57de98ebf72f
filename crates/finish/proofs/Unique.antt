-- What is fixed of finish and of plan as calls: two runs on the same input have the same refusal, or the same starting excess, and leave the same but
-- for the assignment; and no round is made exactly on a legal start.
-- Assumes nothing.
use mathlib.Core.Path.{◌≡◌, sym, ◌∙◌}
use mathlib.Core.List.{List}
use mathlib.Core.Logic.{◌↔◌}
use Prim.Native.Nat.{ℕ}
use lib.ListN.{length}
use Rattle.std.specs.Prelude.{Ok, Err}
use Rattle.laws.specs.Row.{at}
use Rattle.words.specs.Verdict.{Verdict}
use Rattle.job.specs.Job.{job_in}
use Rattle.board.specs.Board.{Legal}
use Rattle.refusals.specs.Start.{plan_verdict, round_verdict}
use Rattle.round.specs.OneRound.{Untouched}
use Rattle.round.specs.Twice.{SameBeyond}
use Rattle.round.proofs.Unique.{accepted_twice, untouched_twice, finished_at_once, finished_excess_once}
use Rattle.finish.specs.Answer.{Finish}
use Rattle.finish.specs.Finish.{AnsweredBy, FinishedIn, FinishCall}
use Rattle.finish.specs.Plan.{dealt, PlannedIn, PlanCall}
use Rattle.finish.specs.Twice.{SameFinish}
use Rattle.finish.proofs.Promises.{done_finished, done_planned}

module _ (job plan₀ plan plan' s₀ s s' : List ℕ) where
  -- two answers by one verdict
  module _ (made made' : ℕ → ℕ → Type 0) (same : (k e k' e' : ℕ) → made k e → made' k' e' → (e ≡ e') × SameBeyond job plan plan' s s') where
    answered_once : (v : Verdict) (r r' : Finish) → AnsweredBy v r (Untouched plan₀ plan s₀ s) made → AnsweredBy v r' (Untouched plan₀ plan' s₀ s') made'
        → SameFinish job plan plan' s s' r r'
    answered_once (Ok _) (Ok d) (Ok d') one other = same d.made d.excess d'.made d'.excess one other
    answered_once (Ok _) (Ok d) (Err r') one other = absurd other
    answered_once (Ok _) (Err r) r' one other = absurd one
    answered_once (Err q) (Ok d) r' one other = absurd one
    answered_once (Err q) (Err r) (Ok d') one other = absurd other
    answered_once (Err q) (Err r) (Err r') one other =
        let m = untouched_twice job plan₀ plan plan' s₀ s s' one.1 other.1 in
        (one.0 ∙ sym other.0, m.0, m.1)

  pub finish_once : (r r' : Finish) → FinishCall job plan₀ plan s₀ s r → FinishCall job plan₀ plan' s₀ s' r' → SameFinish job plan plan' s s' r r'
  finish_once r r' one other =
      answered_once (FinishedIn job plan₀ plan s₀ s) (FinishedIn job plan₀ plan' s₀ s')
      (λ k e k' e' a b.
      (finished_excess_once (job_in job) (at plan₀) a.finished b.finished, accepted_twice job plan₀ plan plan' s₀ s s' a.memory b.memory))
      (round_verdict job plan₀ (length s₀)) r r' one.answered other.answered

  pub plan_once : (r r' : Finish) → PlanCall job plan₀ plan s₀ s r → PlanCall job plan₀ plan' s₀ s' r' → SameFinish job plan plan' s s' r r'
  plan_once r r' one other =
      answered_once (PlannedIn job plan₀ plan s₀ s) (PlannedIn job plan₀ plan' s₀ s')
      (λ k e k' e' a b.
      (finished_excess_once (job_in job) (at (dealt (job_in job) plan₀)) a.finished b.finished, accepted_twice job plan₀ plan plan' s₀ s s' a.memory b.memory))
      (plan_verdict job (length plan₀) (length s₀)) r r' one.answered other.answered

-- the round count is open where the start is not legal, and 0 where it is
module _ (job plan₀ plan s₀ s : List ℕ) (k e : ℕ) where
  pub finish_at_once : FinishCall job plan₀ plan s₀ s (Ok (record { made = k; excess = e })) → (k ≡ 0) ↔ Legal (job_in job) (at plan₀)
  finish_at_once call = finished_at_once (job_in job) (at plan₀) (done_finished job plan₀ plan s₀ s k e call).1.finished

  pub plan_at_once : PlanCall job plan₀ plan s₀ s (Ok (record { made = k; excess = e })) → (k ≡ 0) ↔ Legal (job_in job) (at (dealt (job_in job) plan₀))
  plan_at_once call = finished_at_once (job_in job) (at (dealt (job_in job) plan₀)) (done_planned job plan₀ plan s₀ s k e call).1.finished
