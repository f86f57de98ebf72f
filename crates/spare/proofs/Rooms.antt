-- Spare and headroom: degree and spare make up the limit.
-- Assumes nothing.
use mathlib.Core.Path.{◌≡◌}
use mathlib.Core.List.{List}
use Prim.Native.Nat.{ℕ, ◌+◌, ◌<◌}
use native.Mathlib.Omega.{arith}
use denote.Ref.{Bor}
use Rattle.std.specs.Prelude.{Ok}
use Rattle.job.specs.declared.Job.{Job}
use Rattle.job.specs.Job.{job_in}
use Rattle.job.specs.Board.{board_of}
use Rattle.board.specs.Board.{degree, limit, WithinLimits}
use Rattle.refusals.specs.Asked.{fitting_verdict}
use Rattle.refusals.proofs.Asking.{fitting_within}
use Rattle.spare.specs.Spare.{spare_of}

-- where the job is not refused, degree and spare make up the limit
pub spare_whole : (job : List ℕ) → fitting_verdict job ≡ Ok tt → (v : ℕ) → v < (job_in job).f → degree (job_in job) v + spare_of (job_in job) v ≡ limit (job_in job) v
unfolding spare_of
spare_whole job done v l = omega (arith, fitting_within job done v l)

-- a job of these bytes, which are not refused
pub job_within : (job : Job) (bytes : Bor (List ℕ)) → job.bytes ≡ bytes → fitting_verdict bytes.now ≡ Ok tt → WithinLimits (board_of job)
job_within job bytes e done = fitting_within job.bytes.now (rw e done)
