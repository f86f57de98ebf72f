-- Net i of a job: when there is one, and what it is.
-- Assumes nothing.
use mathlib.Core.Path.{◌≡◌, refl}
use mathlib.Core.List.{List}
use Prim.Native.Nat.{ℕ, ◌+◌, ◌%◌, ◌≤◌, ◌<◌}
use native.Mathlib.Omega.{arith}
use lib.ListN.{length}
use borrow.Author.Tests.{lt-ltb, le-ltb, le-leb}
use Rattle.std.specs.Prelude.{None, Some, Result, Ok, Err}
use Rattle.words.specs.declared.Refusal.{Refusal}
use Rattle.job.specs.declared.Job.{Job}
use Rattle.job.specs.Checked.{heads}
use Rattle.job.specs.Job.{nets_at, n_in, first_at, first_in, second_in}
use Rattle.job.specs.Check.{job_verdict}
use Rattle.job.specs.Read.{net_at, section_long}
use Rattle.job.proofs.Passing.{passes}

-- a head is made of numbers of two bytes
pub nets_at_even : (job : List ℕ) → nets_at job % 2 ≡ 0
unfolding nets_at
nets_at_even job = refl

pub nets_at_small : (job : List ℕ) → nets_at job < 65536
unfolding nets_at
nets_at_small job = omega arith

module _ (job : List ℕ) (n i : ℕ) where
  pub none_above : n ≤ i → net_at job n i ≡ None
  unfolding net_at
  none_above h = simp (le-ltb i n h)

-- of a job that passes, with its own n
pub net_of_job : (job : List ℕ) (i : ℕ) → job_verdict job ≡ Ok tt → i < n_in job → net_at job (n_in job) i ≡ Some (record { 0 = first_in job i }, record { 0 = second_in job i })
unfolding net_at
net_of_job job i done l = simp (lt-ltb _ _ l, le-leb (first_at (nets_at job) (i + 1)) (length job) (omega (arith, (passes job done).long)))

-- a section has four bytes for each of 4,096 nets at the most
pub section_short : (checked : Result Job Refusal) → section_long (heads checked) ≤ 16384
section_short (Ok job) = omega (arith, job.well_formed.ranged.n_high)
section_short (Err r) = omega arith
