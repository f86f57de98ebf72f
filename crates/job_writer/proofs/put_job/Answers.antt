-- `job_writer::put_job` meets its contract.
use Rattle.job_writer.proofs.Writing.{head_then_nets}
use mathlib.Core.Path.{refl}
use Rattle.job_writer.proofs.put_job.Goals as goal

pub returns : goal.returns
returns c = head_then_nets _ _ _ c.args.n _ _ _ _ _ refl c.put_head.ensures c.write_behind.ensures
