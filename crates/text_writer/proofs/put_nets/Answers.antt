-- `text_writer::put_nets` meets its contract.
use mathlib.Core.Path.{ap, ◌∙◌, sym}
use native.Mathlib.Omega.{arith}
use Rattle.text.specs.Text.{puts}
use Rattle.text.proofs.Putting.{puts_none}
use Rattle.text_writer.proofs.Long.{lines_of, lines_none}
use Rattle.text_writer.proofs.Putting.{line_put, line_done}
use Rattle.text_writer.proofs.put_nets.Goals as goal

pub loop-i-preserved : goal.loop-i-preserved
loop-i-preserved c =
    let well = c.args.job.now.well_formed in
    let v = c.ends-v.ensures.first.0 in
    let w = c.ends-v.ensures.second.0 in
    line_done c.args.text.now c.loop-i.text _ _ _ _ _ (line_put _ _ _ _ _ c.number_then.ensures c.number_then-in-loop-i.ensures) (lines_of _ _ well c.loop-i.i _ _ c.loop-i-test.true v w) c.loop-i.invariant

pub returns : goal.returns
returns c =
    let l = c.loop-i in
    let well = c.args.job.now.well_formed in
    record {
      same_room = l.invariant.0;
      value = puts_none _ ∙ sym (ap (puts _) (lines_none _ _ well l.i (omega arith))) ∙ l.invariant.1;
    }
