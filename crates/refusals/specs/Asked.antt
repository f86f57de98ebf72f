-- The refusals of spare and headroom: of the job, then of the FPGAs asked about.
use Rattle.words.specs.declared.Reason.{Reason}
use Rattle.words.specs.declared.Reason.TheVariants as reason
use Rattle.std.specs.Prelude.{List, ℕ, leb, eqb}
use Rattle.words.specs.Verdict.{Verdict, refuse_if, ◌then◌, at_fpga}
use Rattle.job.specs.Job.{f_in, job_in}
use Rattle.job.specs.Check.{job_verdict}
use Rattle.refusals.specs.Refusals.{degree_verdict}

-- refusals 1 to 10, 27 and 12, of a job by itself
unfoldable pub fitting_verdict : List ℕ → Verdict
fitting_verdict job = job_verdict job then degree_verdict (job_in job)

-- an FPGA that is asked about and that the board does not have: 9, or 27 for the second of two
unfoldable pub asked_verdict : Reason → ℕ → ℕ → Verdict
asked_verdict k f v = refuse_if (leb f v) k (at_fpga v)

-- two of them: the first, then the second, then the same one twice
unfoldable pub both_verdict : ℕ → ℕ → ℕ → Verdict
both_verdict f v w =
    asked_verdict reason.FirstEnd f v then
    asked_verdict reason.SecondEnd f w then
    refuse_if (eqb v w) reason.SameEnd (at_fpga v)

-- after the job's refusals
unfoldable pub spare_verdict : List ℕ → ℕ → Verdict
spare_verdict job v = fitting_verdict job then asked_verdict reason.FirstEnd (f_in job) v

unfoldable pub headroom_verdict : List ℕ → ℕ → ℕ → Verdict
headroom_verdict job v w = fitting_verdict job then both_verdict (f_in job) v w
