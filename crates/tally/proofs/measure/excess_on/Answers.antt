-- `tally::measure::excess_on` meets its contract.
use Rattle.std.proofs.Common.{refl, arith, ◌-◌}
use Rattle.laws.proofs.Sum.{sum_more}
use Rattle.laws.specs.Row.{at}
use Rattle.laws.specs.Sum.{sum}
use Rattle.job.specs.Board.{board_of}
use Rattle.tally.proofs.measure.excess_on.Goals as goal

pub loop-v-init : goal.loop-v-init
unfolding sum
loop-v-init c = record { value = refl; bound = omega arith }

pub loop-v-preserved : goal.loop-v-preserved
loop-v-preserved c =
    let l = c.loop-v in
    let a = c.args in
    record {
      value = omega (arith, c.width_of.ensures.value, sum_more (λ u. at a.count u - (board_of a.job.now).width u) l.v);
      bound = omega arith;
    }
