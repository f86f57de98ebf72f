-- The refusals of spare and headroom: what it means that there is none.
-- Assumes nothing.
use Rattle.words.specs.declared.Reason.{Reason}
use Rattle.words.specs.declared.Reason.TheVariants as reason
use mathlib.Core.Path.{◌≡◌}
use mathlib.Core.List.{List}
use Prim.Native.Nat.{ℕ, ◌<◌}
use borrow.Author.Tests.{leb-false}
use Rattle.std.specs.Prelude.{Ok}
use Rattle.words.proofs.Order.{passed, then_first, then_second}
use Rattle.job.specs.Job.{job_in}
use Rattle.board.specs.Board.{WithinLimits}
use Rattle.refusals.specs.Asked.{fitting_verdict, asked_verdict, both_verdict}
use Rattle.refusals.proofs.Faults.{degrees_say}

-- ---- the job

pub fitting_within : (job : List ℕ) → fitting_verdict job ≡ Ok tt → WithinLimits (job_in job)
unfolding fitting_verdict
fitting_within job done = (degrees_say (job_in job)).0 (then_second _ _ done)

-- ---- the FPGAs asked about

pub known : (k : Reason) (f v : ℕ) → asked_verdict k f v ≡ Ok tt → v < f
unfolding asked_verdict
known k f v h = leb-false _ _ (passed _ k _ h)

pub both_known : (f v w : ℕ) → both_verdict f v w ≡ Ok tt → (v < f) × (w < f)
unfolding both_verdict
both_known f v w h = (known reason.FirstEnd f v (then_first _ _ h), known reason.SecondEnd f w (then_first _ _ (then_second _ _ h)))
