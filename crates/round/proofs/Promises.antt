-- What the contract of one round promises: condition 3, from the answer and from the customer's premises.
-- Assumes nothing.
use mathlib.Core.Path.{◌≡◌, refl}
use mathlib.Core.List.{List}
use Prim.Native.Nat.{ℕ, ◌≤◌}
use lib.ListN.{length}
use Rattle.std.specs.Prelude.{Option, None, Some, Ok, Err}
use Rattle.laws.specs.Row.{at}
use Rattle.words.specs.declared.Refusal.{Refusal}
use Rattle.words.specs.Verdict.{Verdict}
use Rattle.job.specs.Job.{n_in, job_in}
use Rattle.job.specs.Check.{job_verdict}
use Rattle.board.specs.Board.{InRange, WithinLimits}
use Rattle.scratch.specs.Scratch.{scratch_long}
use Rattle.search.specs.declared.Over.{Over}
use Rattle.search.specs.Search.{search_of}
use Rattle.search.proofs.Answers.{settled-legal}
use Rattle.refusals.specs.Start.{round_verdict}
use Rattle.refusals.proofs.Starting.{ready}
use Rattle.refusals.proofs.Condition2.{round_accepted}
use Rattle.round.specs.Answer.{Round}
use Rattle.round.specs.Round.{RoundStep, Improves}
use Rattle.round.specs.OneRound.{round_answer, OneRound}
use Rattle.round.specs.Condition3.{RoundMade}
use Rattle.round.proofs.Condition3.{condition3, round_named}

-- ---- from the answer

-- it names what the search names, and then nothing was refused
done_names : (w : Verdict) (f made : Option Over) → Ok made ≡ round_answer w f → (w ≡ Ok tt) × (f ≡ made)
done_names (Ok _) f made e = (refl, cc)
done_names (Err r) f made e = cc

done_not_refused : (f : Option Over) (r : Refusal) → Err r ≡ round_answer (Ok tt) f → ⊥
done_not_refused f r e = cc

module _ (job plan plan' s s' : List ℕ) (o : Over) (m : OneRound job plan plan' s s' (Ok (Some o))) where
  pub moved_says : (round_verdict job plan (length s) ≡ Ok tt) × (search_of (job_in job) (at plan) ≡ Some o)
  moved_says = done_names (round_verdict job plan (length s)) (search_of (job_in job) (at plan)) (Some o) m.answer

  pub moved_round : RoundStep (job_in job) (at plan) (at plan')
  moved_round = record { v = o.fpga.0; A = o.crowded.0; B = o.room.0; named = moved_says.1; rule = m.memory.0 }

  -- condition 3 for the call
  pub moved_improves : Improves (job_in job) (at plan) (at plan') o.crowded.0 o.room.0
  unfolding moved_round
  moved_improves =
      let r = ready job plan s moved_says.0 in
      condition3 (job_in job) (at plan) (at plan') moved_round r.fitting.within r.in_range

-- ---- from a job that passes, room and scratch enough, every degree within its limit, and a start in range

module _ (job plan₀ plan s₀ s : List ℕ) (sound : job_verdict job ≡ Ok tt) (nets : n_in job ≤ length plan₀) (long : scratch_long ≤ length s₀)
    (within : WithinLimits (job_in job)) (ranged : InRange (job_in job) (at plan₀)) where
  -- the start is legal, the answer says so and nothing has moved; or the three that are named are the lowest, and the result is better
  pub round_made : (r : Round) → OneRound job plan₀ plan s₀ s r → RoundMade (job_in job) plan₀ plan r
  unfolding moved_round
  round_made (Ok None) call =
      let names = done_names (round_verdict job plan₀ (length s₀)) (search_of (job_in job) (at plan₀)) None call.answer in
      RoundMade.settled ((settled-legal (job_in job) (at plan₀)).0 names.1) refl call.memory.0
  round_made (Ok (Some o)) call =
      RoundMade.moved o.fpga.0 o.crowded.0 o.room.0 refl (round_named (job_in job) (at plan₀) (at plan) (moved_round job plan₀ plan s₀ s o call) within ranged)
      (moved_improves job plan₀ plan s₀ s o call)
  round_made (Err r) call =
      let done = round_accepted job plan₀ (length s₀) sound nets long within ranged in
      absurd (done_not_refused (search_of (job_in job) (at plan₀)) r (rw done at call.answer))
