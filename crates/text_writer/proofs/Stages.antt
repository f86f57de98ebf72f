-- The text writer's verdict where the job's check is done.
-- Assumes nothing.
use mathlib.Core.Path.{◌≡◌}
use mathlib.Core.List.{List}
use Prim.Native.Nat.{ℕ}
use lib.ListN.{length}
use Rattle.std.specs.Prelude.{Ok}
use Rattle.words.specs.Verdict.{too_short}
use Rattle.words.proofs.Order.{then_next}
use Rattle.job.specs.Check.{job_verdict}
use Rattle.text_writer.specs.WriteText.{text_in, write_text_verdict}

pub job_done : (job : List ℕ) (room : ℕ) → job_verdict job ≡ Ok tt → write_text_verdict job room ≡ too_short room (length (text_in job))
unfolding write_text_verdict
job_done job room h = then_next _ _ h
