-- `text_writer::nets_long` meets its contract.
use mathlib.Core.Path.{ap}
use native.Mathlib.Omega.{arith}
use lib.ListN.{length}
use Rattle.text_writer.proofs.Long.{lines_none, line_most, lines_long}
use Rattle.text_writer.proofs.nets_long.Goals as goal

pub loop-i-preserved : goal.loop-i-preserved
loop-i-preserved c =
    let well = c.args.job.now.well_formed in
    let v = c.ends-v.ensures.first.0 in
    let w = c.ends-v.ensures.second.0 in
    let most = line_most _ _ well c.loop-i.i _ _ c.loop-i-test.true v w in
    (omega (arith, most.0, most.1), omega (arith, lines_long _ _ well c.loop-i.i _ _ c.loop-i-test.true v w))

pub returns : goal.returns
returns c =
    let well = c.args.job.now.well_formed in
    let none = ap length (lines_none _ _ well c.loop-i.i (omega arith)) in
    (omega (arith, none), omega (arith, well.ranged.n_high))
