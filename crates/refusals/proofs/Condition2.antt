-- Condition 2: a job is refused on a degree above the limit and on nothing else, and then no assignment is legal; for even m none is within m.
-- Assumes nothing.
use Rattle.words.specs.declared.Reason.TheVariants as reason
use mathlib.Core.Path.{◌≡◌, ap, sym, subst, ◌∙◌}
use mathlib.Core.List.{List}
use mathlib.Core.Logic.{◌↔◌}
use Prim.Native.Nat.{ℕ, ◌%◌, ◌≤◌, ◌<◌}
use native.Mathlib.Omega.{arith}
use lib.ListN.{length}
use Rattle.laws.specs.Lowest.{Lowest, somewhere}
use Rattle.laws.specs.Row.{at}
use Rattle.laws.specs.Test.{Says}
use Rattle.laws.proofs.Test.{ltb_says}
use Rattle.laws.proofs.Cases.{by_test}
use Rattle.laws.proofs.FirstWhere.{lowest_is_first, somewhere_says}
use Rattle.words.specs.declared.Refusal.{Refusal}
use Rattle.std.specs.Prelude.{Ok, Err}
use Rattle.words.specs.Verdict.{refuse, at_fpga}
use Rattle.words.proofs.Order.{then_done, refuses, passes}
use Rattle.job.specs.Job.{m_in, n_in, job_in, wired_in}
use Rattle.job.specs.Check.{job_verdict}
use Rattle.job.proofs.Width.{even_wired}
use Rattle.board.specs.Netlist.{Netlist}
use Rattle.board.specs.Board.{degree, limit, InRange, Legal, WithinLimits}
use Rattle.board.proofs.Limit.{over_limit, legal_limit}
use Rattle.scratch.specs.Scratch.{scratch_long}
use Rattle.refusals.specs.Refusals.{degree_verdict}
use Rattle.refusals.specs.Start.{plan_verdict, round_verdict}
use Rattle.refusals.proofs.Faults.{over, degree_lowest, degrees_say, range_says}
use Rattle.refusals.proofs.Starting.{room_enough, plan_is_checked}

module _ (J : Netlist) where
  -- a degree above the limit leaves no legal assignment
  pub no_assignment : (v : ℕ) → v < J.f → limit J v < degree J v → (a : ℕ → ℕ) → InRange J a → Legal J a → ⊥
  no_assignment v l o a h = over_limit J a h v l o

  -- where some assignment is legal every degree is within the limit
  pub legal_within_limits : (a : ℕ → ℕ) → InRange J a → Legal J a → WithinLimits J
  legal_within_limits a h z v l = legal_limit J a h v l z

  over_says : (v : ℕ) → Says (over J v) (limit J v < degree J v)
  unfolding over
  over_says v = ltb_says (limit J v) (degree J v)

  -- refused with 12 at the lowest FPGA with a degree above the limit
  pub degree_refusal : (w : Lowest (λ v. limit J v < degree J v) J.f) → degree_verdict J ≡ refuse reason.Degree (at_fpga w.at)
  degree_refusal w =
      degree_lowest J ∙ refuses (somewhere (over J) J.f) reason.Degree _ ((somewhere_says (over J) over_says J.f).1 w)
      ∙ ap (λ (v : ℕ). refuse reason.Degree (at_fpga v)) (lowest_is_first (over J) over_says J.f w)

  -- and only so
  pub degree_refused : (r : Refusal) → degree_verdict J ≡ Err r → (w : Lowest (λ v. limit J v < degree J v) J.f) × (Err r ≡ refuse reason.Degree (at_fpga w.at))
  degree_refused r e =
      by_test (somewhere (over J) J.f) (λ t. let w = (somewhere_says (over J) over_says J.f).0 t in (w, sym e ∙ degree_refusal w))
      (λ t.
      let p = degree_lowest J ∙ passes (somewhere (over J) J.f) reason.Degree _ t in
      let z : ◌≡◌ {A = ℕ} 0 1 = cc in
      absurd (omega arith))

  -- so a refusal on degree is never given where an assignment is legal
  pub refused_not_legal : (r : Refusal) → degree_verdict J ≡ Err r → (a : ℕ → ℕ) → InRange J a → Legal J a → ⊥
  refused_not_legal r e a h = let w = (degree_refused r e).0 in no_assignment w.at w.below w.holds a h

-- ---- the call: a sound job with room enough is refused on a degree above the limit and on nothing else

module _ (job : List ℕ) (plan_length scratch_length : ℕ) (sound : job_verdict job ≡ Ok tt) (nets : n_in job ≤ plan_length) (long : scratch_long ≤ scratch_length) where
  plan_by_degree : plan_verdict job plan_length scratch_length ≡ degree_verdict (job_in job)
  plan_by_degree = plan_is_checked job plan_length scratch_length sound (room_enough (n_in job) plan_length scratch_length nets long)

  pub plan_accepted : (plan_verdict job plan_length scratch_length ≡ Ok tt) ↔ WithinLimits (job_in job)
  plan_accepted = (λ e. (degrees_say (job_in job)).0 (sym plan_by_degree ∙ e), λ w. plan_by_degree ∙ (degrees_say (job_in job)).1 w)

  pub plan_refusal : (w : Lowest (λ v. limit (job_in job) v < degree (job_in job) v) (job_in job).f) → plan_verdict job plan_length scratch_length ≡ refuse reason.Degree (at_fpga w.at)
  plan_refusal w = plan_by_degree ∙ degree_refusal (job_in job) w

  pub plan_refused_only : (r : Refusal) → plan_verdict job plan_length scratch_length ≡ Err r
      → (w : Lowest (λ v. limit (job_in job) v < degree (job_in job) v) (job_in job).f) × (Err r ≡ refuse reason.Degree (at_fpga w.at))
  plan_refused_only r e = degree_refused (job_in job) r (sym plan_by_degree ∙ e)

  -- whatever m is, none within the usable width
  pub plan_refused_not_legal : (r : Refusal) → plan_verdict job plan_length scratch_length ≡ Err r → (a : ℕ → ℕ) → InRange (job_in job) a → Legal (job_in job) a → ⊥
  plan_refused_not_legal r e = refused_not_legal (job_in job) r (sym plan_by_degree ∙ e)

  -- for even m, none within m; for odd m there may be one (`three_refused_within`, crates/cases)
  pub plan_refused_not_within : m_in job % 2 ≡ 0 → (r : Refusal) → plan_verdict job plan_length scratch_length ≡ Err r
      → (a : ℕ → ℕ) → InRange (wired_in job) a → Legal (wired_in job) a → ⊥
  plan_refused_not_within even r e a h z = plan_refused_not_legal r e a h (subst (λ (J : Netlist). Legal J a) (sym (even_wired job even)) z)

-- ---- one round and finish: with a start in range nothing is refused

pub round_accepted : (job plan : List ℕ) (scratch_length : ℕ) → job_verdict job ≡ Ok tt → n_in job ≤ length plan → scratch_long ≤ scratch_length
    → WithinLimits (job_in job) → InRange (job_in job) (at plan) → round_verdict job plan scratch_length ≡ Ok tt
unfolding round_verdict
round_accepted job plan scratch_length sound nets long within ranged =
    then_done _ _ ((plan_accepted job (length plan) scratch_length sound nets long).1 within) ((range_says (job_in job) (at plan) reason.Start).1 ranged)
