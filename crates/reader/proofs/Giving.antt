-- What a reader of a job gives: its numbers and net i of a job that passes; zeros and no net of a refused one.
-- Assumes nothing.
use mathlib.Core.Path.{◌≡◌, refl}
use mathlib.Core.List.{List}
use Prim.Native.Nat.{ℕ, ◌≤◌, ◌<◌}
use native.Mathlib.Omega.{arith}
use denote.Ref.{Bor}
use Rattle.words.specs.declared.Refusal.{Refusal}
use Rattle.std.specs.Prelude.{Some, None, Ok, Err}
use Rattle.job.specs.Job.{f_in, c_in, m_in, n_in, first_in, second_in}
use Rattle.job.specs.Check.{job_verdict, checked_of}
use Rattle.job.specs.Read.{net_at}
use Rattle.job.proofs.Reading.{none_above, net_of_job}
use Rattle.reader.specs.Held.{numbers_of, reader_of, held_in, net_in}

module _ (job : List ℕ) where
  pub gives_numbers : job_verdict job ≡ Ok tt → numbers_of (checked_of job) ≡ record { f = record { 0 = f_in job }; c = record { 0 = c_in job }; m = m_in job; n = record { 0 = n_in job } }
  gives_numbers done = rw done

  pub gives_zeros : (r : Refusal) → job_verdict job ≡ Err r → numbers_of (checked_of job) ≡ record { f = record { 0 = 0 }; c = record { 0 = 0 }; m = 0; n = record { 0 = 0 } }
  gives_zeros r refused = rw refused

  module _ (i : ℕ) where
    pub gives_net : job_verdict job ≡ Ok tt → i < n_in job → net_at job (numbers_of (checked_of job)).n.0 i ≡ Some (record { 0 = first_in job i }, record { 0 = second_in job i })
    gives_net done l = rw done (net_of_job job i done l)

    pub gives_none_above : job_verdict job ≡ Ok tt → n_in job ≤ i → net_at job (numbers_of (checked_of job)).n.0 i ≡ None
    gives_none_above done l = rw done (none_above job (n_in job) i l)

    pub gives_none_refused : (r : Refusal) → job_verdict job ≡ Err r → net_at job (numbers_of (checked_of job)).n.0 i ≡ None
    gives_none_refused r refused = rw refused (none_above job 0 i (omega arith))

-- a reader of the job gives the same
pub reader_gives : (job : Bor (List ℕ)) (i : ℕ) → (held_in (reader_of job) ≡ numbers_of (checked_of job.now)) × (net_in (reader_of job) i ≡ net_at job.now (numbers_of (checked_of job.now)).n.0 i)
reader_gives job i = (refl, refl)
