-- `text_writer::text_long` meets its contract.
use native.Mathlib.Omega.{arith}
use Rattle.text_writer.proofs.Long.{text_long}
use Rattle.text_writer.proofs.text_long.Goals as goal

pub returns : goal.returns
returns c = omega (arith, text_long _ _ c.args.job.now.well_formed)
