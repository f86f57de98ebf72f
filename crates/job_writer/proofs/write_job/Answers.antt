-- `job_writer::write_job` meets its contract.
use mathlib.Core.Path.{sym, ◌∙◌}
use Rattle.job_writer.proofs.Writing.{wrote_enough, wrote_room}
use Rattle.job_writer.proofs.write_job.Goals as goal

pub put_job-requires : goal.put_job-requires
put_job-requires c = let done = sym c.check_write.ensures ∙ c.in_ok-check_write.was in
    (wrote_enough _ _ _ _ _ _ done, wrote_room _ _ _ _ _ _ done)
