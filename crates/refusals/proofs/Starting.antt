-- The refusals before a plan and before a round: what it means that there is none.
-- Assumes nothing.
use mathlib.Core.Path.{◌≡◌, ◌∙◌}
use mathlib.Core.List.{List}
use Prim.Native.Nat.{ℕ, ◌≤◌}
use lib.ListN.{length}
use denote.Ref.{Bor}
use Rattle.std.specs.Prelude.{Ok}
use Rattle.laws.specs.Row.{at}
use Rattle.words.specs.declared.Reason.TheVariants as reason
use Rattle.words.proofs.Order.{then_first, then_second, then_done, then_next, long_enough}
use Rattle.job.specs.declared.Job.{Job}
use Rattle.job.specs.Job.{n_in, head_in, job_in}
use Rattle.job.specs.Board.{board_of}
use Rattle.job.specs.Check.{job_verdict}
use Rattle.job.proofs.Passing.{passes}
use Rattle.scratch.specs.Scratch.{scratch_long}
use Rattle.refusals.specs.Refusals.{room_verdict, degree_verdict}
use Rattle.refusals.specs.Start.{plan_verdict, round_verdict, Fitting, Ready}
use Rattle.refusals.proofs.Faults.{degrees_say, range_says}

-- ---- refusal 11

module _ (n plan_length scratch_length : ℕ) where
  pub room_enough : n ≤ plan_length → scratch_long ≤ scratch_length → room_verdict n plan_length scratch_length ≡ Ok tt
  unfolding room_verdict
  room_enough h l = then_done _ _ ((long_enough _ _).1 h) ((long_enough _ _).1 l)

  pub room_done : room_verdict n plan_length scratch_length ≡ Ok tt → (n ≤ plan_length) × (scratch_long ≤ scratch_length)
  unfolding room_verdict
  room_done h = ((long_enough _ _).0 (then_first _ _ h), (long_enough _ _).0 (then_second _ _ h))

-- ---- refusals 1 to 12

module _ (bytes : List ℕ) (plan_length scratch_length : ℕ) where
  pub plan_is_checked : job_verdict bytes ≡ Ok tt → room_verdict (n_in bytes) plan_length scratch_length ≡ Ok tt → plan_verdict bytes plan_length scratch_length ≡ degree_verdict (job_in bytes)
  unfolding plan_verdict
  plan_is_checked h l = then_next _ _ h ∙ then_next _ _ l

  pub plan_sound : plan_verdict bytes plan_length scratch_length ≡ Ok tt → job_verdict bytes ≡ Ok tt
  unfolding plan_verdict
  plan_sound done = then_first _ _ done

module _ (job : Job) (plan_length scratch_length : ℕ) where
  -- what refuses nothing has shown
  fits : plan_verdict job.bytes.now plan_length scratch_length ≡ Ok tt → Fitting job plan_length scratch_length
  unfolding plan_verdict
  fits done =
      let rest = then_second _ _ done in
      let l = room_done (n_in job.bytes.now) plan_length scratch_length (then_first _ _ rest) in
      record {
        every_net = rw job.well_formed.n l.0;
        scratch_is_long = l.1;
        within = (degrees_say (board_of job)).0 (then_second _ _ rest);
      }

  -- the same of a job that has these bytes
  pub plan_fits : (bytes : Bor (List ℕ)) → job.bytes ≡ bytes → plan_verdict bytes.now plan_length scratch_length ≡ Ok tt → Fitting job plan_length scratch_length
  plan_fits bytes e done = fits (rw e done)

-- ---- and 13

round_sound : (bytes plan : List ℕ) (scratch_length : ℕ) → round_verdict bytes plan scratch_length ≡ Ok tt → plan_verdict bytes (length plan) scratch_length ≡ Ok tt
unfolding round_verdict
round_sound bytes plan scratch_length done = then_first _ _ done

module _ (job : Job) (plan s : List ℕ) where
  starts : round_verdict job.bytes.now plan (length s) ≡ Ok tt → Ready job plan s
  unfolding round_verdict
  starts done =
      record {
        fitting = fits job (length plan) (length s) (then_first _ _ done);
        in_range = (range_says (board_of job) (at plan) reason.Start).0 (then_second _ _ done);
      }

  pub start_ready : (bytes : Bor (List ℕ)) → job.bytes ≡ bytes → round_verdict bytes.now plan (length s) ≡ Ok tt → Ready job plan s
  start_ready bytes e done = starts (rw e done)

-- ---- the same of bytes that pass, wherever they lie

abbrev pub as_job : (bytes : List ℕ) → job_verdict bytes ≡ Ok tt → Job
as_job bytes done = record { bytes = record { ref_ptr = (0, 0); now = bytes }; head = head_in bytes; well_formed = passes bytes done }

pub fitting : (bytes : List ℕ) (plan_length scratch_length : ℕ) (done : plan_verdict bytes plan_length scratch_length ≡ Ok tt)
    → Fitting (as_job bytes (plan_sound bytes plan_length scratch_length done)) plan_length scratch_length
fitting bytes plan_length scratch_length done = fits (as_job bytes (plan_sound bytes plan_length scratch_length done)) plan_length scratch_length done

pub round_passes : (bytes plan : List ℕ) (scratch_length : ℕ) → round_verdict bytes plan scratch_length ≡ Ok tt → job_verdict bytes ≡ Ok tt
round_passes bytes plan scratch_length done = plan_sound bytes (length plan) scratch_length (round_sound bytes plan scratch_length done)

pub ready : (bytes plan s : List ℕ) (done : round_verdict bytes plan (length s) ≡ Ok tt) → Ready (as_job bytes (round_passes bytes plan (length s) done)) plan s
ready bytes plan s done = starts (as_job bytes (round_passes bytes plan (length s) done)) plan s done
