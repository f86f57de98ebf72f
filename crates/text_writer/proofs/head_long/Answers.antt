-- `text_writer::head_long` meets its contract.
use native.Mathlib.Omega.{arith}
use Rattle.form.proofs.Most.{head_text_long}
use Rattle.text_writer.proofs.head_long.Goals as goal

pub returns : goal.returns
returns c = let h = c.args.job.now.head in
    (omega (arith, head_text_long h.f h.c h.m h.n), omega arith)
