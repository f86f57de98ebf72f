-- What plan's answer gives the listing: a checked job and a crossbar for each net, or a refusal.
-- Assumes nothing.
use mathlib.Core.Path.{◌≡◌}
use mathlib.Core.List.{List}
use Prim.Native.Nat.{ℕ, ◌≤◌}
use native.Mathlib.Omega.{arith}
use lib.ListN.{length}
use denote.Ref.{Bor}
use Rattle.std.specs.Prelude.{Ok, Err}
use Rattle.laws.specs.Row.{at}
use Rattle.words.specs.declared.Refusal.{Refusal}
use Rattle.words.proofs.Order.{then_first}
use Rattle.job.specs.declared.Job.{Job}
use Rattle.job.specs.Board.{board_of}
use Rattle.job.specs.Check.{job_verdict}
use Rattle.board.specs.Board.{InRange}
use Rattle.board.proofs.Excess.{total_excess_at_most}
use Rattle.job.proofs.Sound.{sound}
use Rattle.refusals.specs.Start.{plan_verdict, Fitting}
use Rattle.refusals.proofs.Starting.{plan_fits}
use Rattle.round.proofs.Planning.{dealt_in_range}
use Rattle.round.proofs.Chains.{chain_at_most}
use Rattle.finish.specs.declared.Rounds.{Rounds}
use Rattle.finish.specs.Answer.{Finish}
use Rattle.finish.specs.Plan.{dealt, PlannedIn, PlanCall}
use Rattle.finish.proofs.Dealing.{dealt_alike}
use Rattle.finish.proofs.Promises.{done_planned}
use Rattle.text.specs.Text.{up_to, puts}
use Rattle.lines.specs.Lines.{refusal_line}
use Rattle.list.specs.Listing.{plan_lines, Listed}
use Rattle.list.proofs.Short.{plan_short}

module _ (bytes : Bor (List ℕ)) (plan₀ plan s₀ s : List ℕ) (r : Finish) (call : PlanCall bytes.now plan₀ plan s₀ s r) where
  -- some rounds: what the lines need
  module _ (rounds : Rounds) (q : r ≡ Ok rounds) where
    planned : PlannedIn bytes.now plan₀ plan s₀ s rounds.made rounds.excess
    planned = (done_planned bytes.now plan₀ plan s₀ s rounds.made rounds.excess (rw q at call)).1

    accepted : plan_verdict bytes.now (length plan₀) (length s₀) ≡ Ok tt
    accepted = (done_planned bytes.now plan₀ plan s₀ s rounds.made rounds.excess (rw q at call)).0

    pub job_passes : job_verdict bytes.now ≡ Ok tt
    unfolding plan_verdict
    job_passes = then_first _ _ accepted

    module _ (job : Job) (d : job.bytes ≡ bytes) where
      fits : Fitting job (length plan₀) (length s₀)
      fits = plan_fits job (length plan₀) (length s₀) bytes d accepted

      its_plan : PlannedIn job.bytes.now plan₀ plan s₀ s rounds.made rounds.excess
      its_plan = rw d planned

      pub every_net : job.head.n ≤ length plan
      every_net = omega (arith, fits.every_net, its_plan.memory.long)

      dealt_low : InRange (board_of job) (at (dealt (board_of job) plan₀))
      dealt_low = dealt_in_range (board_of job) (sound job.bytes.now job.head job.well_formed) _ (dealt_alike (board_of job) plan₀)

      -- no more than two rounds, and no more excess than two, for each net
      few_rounds : rounds.made ≤ 8192
      few_rounds =
          let p = job.well_formed in
          omega (arith, chain_at_most (board_of job) _ fits.within dealt_low its_plan.finished.chain, p.n, p.ranged.n_high)

      little_excess : rounds.excess ≤ 8192
      little_excess =
          let p = job.well_formed in
          omega (arith, its_plan.finished.excess, total_excess_at_most (board_of job) _ dealt_low, p.n, p.ranged.n_high)

      pub plan_listed : (room₀ room : List ℕ) (end : ℕ) → up_to room end ≡ puts (up_to room₀ 0) (plan_lines job.bytes.now plan rounds.made rounds.excess)
          → Listed bytes.now plan₀ plan s₀ s room₀ room end
      plan_listed room₀ room end t =
          record {
            answer = Ok rounds;
            planned = rw q at call;
            listed = rw d at t;
            short = rw (← d) (plan_short job plan its_plan.planned.in_range rounds.made rounds.excess few_rounds little_excess);
          }

  -- a refusal
  pub refusal_listed : (x : Refusal) → r ≡ Err x → (room₀ room : List ℕ) (end : ℕ) → up_to room end ≡ puts (up_to room₀ 0) (refusal_line x) → length (refusal_line x) ≤ 71
      → Listed bytes.now plan₀ plan s₀ s room₀ room end
  refusal_listed x q room₀ room end t l = record { answer = Err x; planned = rw q at call; listed = t; short = omega arith }
