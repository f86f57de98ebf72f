-- Finish and plan as calls that are not refused: rounds from the start or from the deal.
-- Assumes nothing.
use mathlib.Core.Path.{◌≡◌, refl, ap, subst, ◌∙◌}
use mathlib.Core.List.{List}
use Prim.Native.Nat.{ℕ}
use native.Mathlib.Omega.{arith}
use lib.ListN.{length, drop}
use denote.Ref.{Bor}
use Rattle.std.specs.Prelude.{Result, Ok, Err}
use Rattle.words.specs.declared.Refusal.{Refusal}
use Rattle.words.specs.Verdict.{verdict_of}
use Rattle.laws.specs.Row.{at}
use Rattle.job.specs.declared.Job.{Job}
use Rattle.job.specs.Job.{n_in}
use Rattle.job.specs.Board.{board_of}
use Rattle.board.specs.Netlist.{Netlist}
use Rattle.board.specs.Board.{deal, Sound, Alike}
use Rattle.job.proofs.Sound.{sound}
use Rattle.refusals.specs.Start.{plan_verdict, round_verdict, Fitting, Ready}
use Rattle.refusals.proofs.Starting.{plan_fits}
use Rattle.round.proofs.Planning.{dealt_in_range, plan_possible}
use Rattle.finish.specs.declared.Rounds.{Rounds}
use Rattle.finish.specs.Finish.{FinishedIn, FinishCall}
use Rattle.finish.specs.Plan.{dealt, PlannedIn, PlanCall}
use Rattle.finish.proofs.Dealing.{dealt_long, dealt_beyond, dealt_alike}

-- ---- finish

-- of bytes that this job was checked from
pub finish_done : (job : Job) (bytes : Bor (List ℕ)) → job.bytes ≡ bytes → (plan s : List ℕ) → Ok tt ≡ round_verdict bytes.now plan (length s)
    → (plan' s' : List ℕ) (r : Rounds) → FinishedIn job.bytes.now plan plan' s s' r.made r.excess → FinishCall bytes.now plan plan' s s' (Ok r)
finish_done job bytes same plan s done plan' s' r f =
    record { answered = rw (← done) (subst (λ (b : Bor (List ℕ)). FinishedIn b.now plan plan' s s' r.made r.excess) same f) }

-- ---- plan

-- a plan that is refused is answered with that refusal, and nothing is written
pub plan_refused : (job plan s : List ℕ) (start : Result Job Refusal) → verdict_of start ≡ plan_verdict job (length plan) (length s) → (r : Refusal) → start ≡ Err r
    → PlanCall job plan plan s s (Err r)
plan_refused job plan s start e r q = record { answered = rw (← e, q) (refl, record { plan_same = refl; scratch_same = refl }) }

module _ (job : Job) (plan s : List ℕ) (fits : Fitting job (length plan) (length s)) (plan₁ : List ℕ) (d : plan₁ ≡ dealt (board_of job) plan) where
  abbrev J : Netlist
  J = board_of job

  board_sound : Sound J
  board_sound = sound job.bytes.now job.head job.well_formed

  start_long : length plan₁ ≡ length plan
  start_long = ap length d ∙ dealt_long J plan (omega (arith, fits.every_net, job.well_formed.n))

  start_alike : Alike J (deal J) (at plan₁)
  start_alike = rw d (dealt_alike J plan)

  pub plan_ready : Ready job plan₁ s
  plan_ready =
      record {
        fitting = record {
          every_net = omega (arith, fits.every_net, start_long);
          scratch_is_long = fits.scratch_is_long;
          within = fits.within;
        };
        in_range = dealt_in_range J board_sound (at plan₁) start_alike;
      }

  planned : (plan' s' : List ℕ) (k e : ℕ) → FinishedIn job.bytes.now plan₁ plan' s s' k e → PlannedIn job.bytes.now plan plan' s s' k e
  planned plan' s' k e m =
      record {
        finished = rw d at m.finished;
        planned = plan_possible J board_sound (at plan₁) start_alike fits.within m.finished.chain m.finished.legal;
        memory = record {
          long = m.memory.long ∙ start_long;
          beyond = m.memory.beyond ∙ ap (λ (l : List ℕ). drop (n_in job.bytes.now) l) d ∙ dealt_beyond J plan;
          scratch_zero = m.memory.scratch_zero;
        };
      }

-- of bytes that this job was checked from
pub plan_done : (job : Job) (bytes : Bor (List ℕ)) → job.bytes ≡ bytes → (plan s : List ℕ) → plan_verdict bytes.now (length plan) (length s) ≡ Ok tt
    → (plan₁ : List ℕ) → plan₁ ≡ dealt (board_of job) plan
    → (plan' s' : List ℕ) (r : Rounds) → FinishedIn job.bytes.now plan₁ plan' s s' r.made r.excess → PlanCall bytes.now plan plan' s s' (Ok r)
plan_done job bytes same plan s done plan₁ d plan' s' r f =
    let fits = plan_fits job (length plan) (length s) bytes same done in
    let made = planned job plan s fits plan₁ d plan' s' r.made r.excess f in
    record { answered = rw done (subst (λ (b : Bor (List ℕ)). PlannedIn b.now plan plan' s s' r.made r.excess) same made) }
