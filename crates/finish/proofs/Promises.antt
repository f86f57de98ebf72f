-- What the contracts of finish and plan promise: condition 2, condition 3 over all rounds, and how few the rounds are.
-- Assumes nothing.
use mathlib.Core.Path.{◌≡◌, refl, ap, ◌∙◌}
use mathlib.Core.List.{List}
use Prim.Native.Nat.{ℕ, ◌*◌, ◌≤◌, ◌<◌}
use native.Mathlib.Omega.{arith}
use lib.ListN.{length}
use Rattle.std.specs.Prelude.{Ok, Err}
use Rattle.laws.specs.Row.{at}
use Rattle.laws.specs.Lowest.{Lowest}
use Rattle.words.specs.declared.Refusal.{Refusal}
use Rattle.words.specs.declared.Reason.TheVariants as reason
use Rattle.words.specs.Verdict.{Verdict, at_fpga}
use Rattle.job.specs.Job.{n_in, job_in}
use Rattle.job.specs.Check.{job_verdict}
use Rattle.board.specs.Netlist.{Netlist}
use Rattle.board.specs.Board.{degree, limit, InRange, Legal, WithinLimits}
use Rattle.board.proofs.Excess.{total_excess_at_most}
use Rattle.scratch.specs.Scratch.{scratch_long}
use Rattle.round.specs.Round.{Finished, ImprovesBy, Planned}
use Rattle.refusals.specs.Start.{plan_verdict, round_verdict}
use Rattle.round.specs.OneRound.{Untouched}
use Rattle.refusals.proofs.Starting.{ready}
use Rattle.round.proofs.Chains.{chain_improves, chain_short}
use Rattle.refusals.proofs.Condition2.{no_assignment, plan_accepted, plan_refusal, round_accepted}
use Rattle.finish.specs.Answer.{Finish}
use Rattle.finish.specs.Finish.{AnsweredBy, FinishedIn, FinishCall}
use Rattle.finish.specs.Plan.{PlannedIn, PlanCall}
use Rattle.finish.specs.Condition3.{FinishMade}

-- the answer of k rounds from the excess e
abbrev rounds : ℕ → ℕ → Finish
rounds k e = Ok (record { made = k; excess = e })

-- an answer by a verdict: its refusal and nothing else, or rounds
module _ (kept : Type 0) (made : ℕ → ℕ → Type 0) where
  by_refusal : (q : Refusal) (r : Finish) → AnsweredBy (Err q) r kept made → (r ≡ Err q) × kept
  by_refusal q (Err p) a = let e = a.0 in (rw e, a.1)
  by_refusal q (Ok d) a = absurd a

  by_rounds : (r : Finish) → AnsweredBy (Ok tt) r kept made → (k : ℕ) × (e : ℕ) × (r ≡ rounds k e) × made k e
  by_rounds (Err p) a = absurd a
  by_rounds (Ok d) a = (d.made, d.excess, refl, a)

-- condition 2: a sound job with room enough
module _ (job plan₀ plan s₀ s : List ℕ) (r : Finish) (call : PlanCall job plan₀ plan s₀ s r)
    (sound : job_verdict job ≡ Ok tt) (nets : n_in job ≤ length plan₀) (long : scratch_long ≤ length s₀) where
  abbrev J : Netlist
  J = job_in job

  -- with a degree above the limit it is refused, at the lowest such FPGA; nothing is written, and no assignment is legal
  pub plan_over : (w : Lowest (λ v. limit J v < degree J v) J.f)
      → (r ≡ Err (record { reason = reason.Degree; place = at_fpga w.at })) × Untouched plan₀ plan s₀ s × ((a : ℕ → ℕ) → InRange J a → Legal J a → ⊥)
  plan_over w =
      let v = plan_refusal job (length plan₀) (length s₀) sound nets long w in
      let a = by_refusal (Untouched plan₀ plan s₀ s) (PlannedIn job plan₀ plan s₀ s) _ r (rw v at call.answered) in
      (a.0, a.1, no_assignment J w.at w.below w.holds)

  -- with none it is planned: in range, legal and balanced
  pub plan_within : WithinLimits J → (k : ℕ) × (e : ℕ) × (r ≡ rounds k e) × Planned J (at plan)
  plan_within w =
      let v = (plan_accepted job (length plan₀) (length s₀) sound nets long).1 w in
      let a = by_rounds (Untouched plan₀ plan s₀ s) (PlannedIn job plan₀ plan s₀ s) r (rw v at call.answered) in
      (a.0, a.1, a.2, a.3.planned)

-- what is done was accepted
module _ (kept : Type 0) (made : ℕ → ℕ → Type 0) (k e : ℕ) where
  by_done : (v : Verdict) → AnsweredBy v (rounds k e) kept made → (v ≡ Ok tt) × made k e
  by_done (Ok _) a = (refl, a)
  by_done (Err p) a = absurd a

module _ (job plan₀ plan s₀ s : List ℕ) (k e : ℕ) where
  pub done_planned : PlanCall job plan₀ plan s₀ s (rounds k e) → (plan_verdict job (length plan₀) (length s₀) ≡ Ok tt) × PlannedIn job plan₀ plan s₀ s k e
  done_planned call = by_done (Untouched plan₀ plan s₀ s) (PlannedIn job plan₀ plan s₀ s) k e (plan_verdict job (length plan₀) (length s₀)) call.answered

  pub done_finished : FinishCall job plan₀ plan s₀ s (rounds k e) → (round_verdict job plan₀ (length s₀) ≡ Ok tt) × FinishedIn job plan₀ plan s₀ s k e
  done_finished call = by_done (Untouched plan₀ plan s₀ s) (FinishedIn job plan₀ plan s₀ s) k e (round_verdict job plan₀ (length s₀)) call.answered

-- condition 3 over the rounds of a finish that is not refused
module _ (job plan₀ plan s₀ s : List ℕ) (k e : ℕ) (call : FinishCall job plan₀ plan s₀ s (rounds k e)) where
  begins : WithinLimits (job_in job) × InRange (job_in job) (at plan₀)
  begins = let r = ready job plan₀ s₀ (done_finished job plan₀ plan s₀ s k e call).0 in (r.fitting.within, r.in_range)

  made : Finished (job_in job) (at plan₀) (at plan) k e
  made = (done_finished job plan₀ plan s₀ s k e call).1.finished

  -- no FPGA's excess has risen, the spread has not widened, every net is on the board, and nothing is over
  pub finish_improves : ImprovesBy (job_in job) (at plan₀) (at plan) k × Legal (job_in job) (at plan)
  finish_improves = (chain_improves (job_in job) (at plan₀) begins.0 begins.1 made.chain, made.legal)

  -- at most as many rounds as the excess, which is at most two for each net
  pub finish_short : (k ≤ e) × (e ≤ 2 * n_in job)
  finish_short = (
    omega (arith, made.excess, chain_short (job_in job) (at plan₀) begins.0 begins.1 made.chain),
    omega (arith, made.excess, total_excess_at_most (job_in job) (at plan₀) begins.1),
  )

-- the same from a job that passes, room and scratch enough, every degree within its limit, and a start in range
module _ (job plan₀ plan s₀ s : List ℕ) (r : Finish) (call : FinishCall job plan₀ plan s₀ s r) (sound : job_verdict job ≡ Ok tt)
    (nets : n_in job ≤ length plan₀) (long : scratch_long ≤ length s₀) (within : WithinLimits (job_in job)) (ranged : InRange (job_in job) (at plan₀)) where
  pub finish_made : FinishMade (job_in job) plan₀ plan r
  finish_made =
      let v = round_accepted job plan₀ (length s₀) sound nets long within ranged in
      let a = by_rounds (Untouched plan₀ plan s₀ s) (FinishedIn job plan₀ plan s₀ s) r (rw v at call.answered) in
      let f = a.3.finished in
      record {
        k = a.0;
        answer = a.2 ∙ ap (rounds a.0) f.excess;
        few = chain_short (job_in job) (at plan₀) within ranged f.chain;
        improves = chain_improves (job_in job) (at plan₀) within ranged f.chain;
        legal = f.legal;
      }
