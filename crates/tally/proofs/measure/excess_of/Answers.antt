-- `tally::measure::excess_of` meets its contract.
use Rattle.std.proofs.Common.{refl, ◌∙◌, arith}
use Rattle.laws.proofs.Sum.{sum_more}
use Rattle.laws.specs.Row.{at}
use Rattle.laws.specs.Sum.{sum}
use Rattle.job.specs.Board.{board_of}
use Rattle.tally.proofs.Crossbars.{excess_on, excess_counted, excess_all}
use Rattle.tally.proofs.measure.excess_of.Goals as goal

pub loop-x-init : goal.loop-x-init
unfolding sum
loop-x-init c = record { value = refl; bound = omega arith }

pub loop-x-preserved : goal.loop-x-preserved
loop-x-preserved c =
    let l = c.loop-x in
    let a = c.args in
    record {
      value = omega (arith, excess_counted a.job.now (at a.plan.now) l.x c.loads_on.ensures, sum_more (excess_on (board_of a.job.now) (at a.plan.now)) l.x);
      bound = omega (arith, a.job.now.well_formed.ranged.f_high);
    }

pub returns : goal.returns
returns c = c.loop-x.invariant.value ∙ excess_all c.args.job.now _ _ (omega arith)
