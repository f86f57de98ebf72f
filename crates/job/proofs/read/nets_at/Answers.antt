-- `job::read::nets_at` meets its contract.
use Rattle.job.specs.Job.{nets_at}
use native.Mathlib.Omega.{arith}
use mathlib.Core.Path.{refl}
use Rattle.job.proofs.read.nets_at.Goals as goal

pub returns : goal.returns
unfolding nets_at
returns c = (refl, omega arith)
