-- What the check's answer says of a job.
-- Assumes nothing.
use mathlib.Core.Path.{◌≡◌, refl, ap, sym, ◌∙◌}
use mathlib.Core.List.{List}
use lib.ListN.{length}
use Prim.Native.Nat.{ℕ, ◌≤◌}
use Rattle.std.specs.Prelude.{Ok, Err, Result, IfOk}
use denote.Ref.{Bor}
use Rattle.words.specs.declared.Refusal.{Refusal}
use Rattle.words.specs.Verdict.{verdict_of}
use Rattle.job.specs.declared.Job.{Job}
use Rattle.job.specs.declared.Head.{Head}
use Rattle.job.specs.Job.{head_in, nets_at, first_at, f_in, n_in, first_in, second_in}
use Rattle.words.proofs.Order.{stage_refused, stage_passed}
use Rattle.job.specs.Check.{head_verdict, length_verdict, nets_verdict, job_verdict, checked_of, WellFormed}
use Rattle.job.specs.Checked.{heads}
use Rattle.job.proofs.Stages.{ranged, all_join, its_head, its_end, its_nets, its_ranges, its_length}

pub passes : (job : List ℕ) → job_verdict job ≡ Ok tt → WellFormed job (head_in job)
passes job done =
    record {
      f = refl;
      c = refl;
      m = refl;
      width = refl;
      n = refl;
      start = refl;
      ranged = ranged _ _ _ _ (its_ranges job (its_head job done));
      long = its_length job (its_end job done);
      nets = all_join _ _ _ _ _ (its_nets job done);
    }

-- the head that the code has read, once the first stage is done, and once the second is
module _ (job : List ℕ) (h : Head) (e : h ≡ head_in job) (head : head_verdict job ≡ Ok tt) where
  pub head_few : (h.n ≡ n_in job) × (h.n ≤ 4096)
  head_few = rw e (refl, (ranged _ _ _ _ (its_ranges job head)).n_high)

  pub length_told : length_verdict job ≡ Ok tt → (h.start ≡ nets_at job) × (length job ≡ first_at h.start h.n) × (h.n ≤ 4096)
  length_told long = rw e (refl, its_length job long, (ranged _ _ _ _ (its_ranges job head)).n_high)

-- the numbers of a job that is well formed are those of its head
pub its_head_is : (job : List ℕ) (h : Head) → WellFormed job h → h ≡ head_in job
its_head_is job h p = rw (← p.width, ← p.f, ← p.c, ← p.m, ← p.n, ← p.start) refl

-- the check's answer is the verdict's, with the head that stands in the job
pub check_is_checked : (job : Bor (List ℕ)) (r : Result Job Refusal) → verdict_of r ≡ job_verdict job.now → IfOk r (λ checked. checked.bytes ≡ job) → heads r ≡ checked_of job.now
check_is_checked job (Ok checked) v b = let e = its_head_is _ _ checked.well_formed in rw (← v, ← b) (ap Ok e)
check_is_checked job (Err r) v b = rw (← v) refl

-- ---- the stages of the check, joined into its answer

module _ (job : List ℕ) (r : Refusal) where
  pub head_answers : head_verdict job ≡ Err r → Err r ≡ checked_of job
  unfolding job_verdict
  head_answers d = stage_refused (head_in job) (head_verdict job) _ (Err r) (rw d refl) r refl

  module _ (head : head_verdict job ≡ Ok tt) where
    pub length_answers : length_verdict job ≡ Err r → Err r ≡ checked_of job
    unfolding job_verdict
    length_answers d =
        stage_refused (head_in job) (length_verdict job) _ (Err r) (rw d refl) r refl
        ∙ sym (stage_passed (head_in job) (head_verdict job) _ (Ok (head_in job)) (rw head refl) (head_in job) refl)

    pub nets_answer : length_verdict job ≡ Ok tt → nets_verdict (f_in job) (nets_at job) (first_in job) (second_in job) (n_in job) ≡ Err r → Err r ≡ checked_of job
    unfolding job_verdict
    nets_answer long d =
        sym (
        stage_passed (head_in job) (head_verdict job) _ (Ok (head_in job)) (rw head refl) (head_in job) refl
        ∙ stage_passed (head_in job) (length_verdict job) _ (Ok (head_in job)) (rw long refl) (head_in job) refl
        ∙ rw d refl
        )
