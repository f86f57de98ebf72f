-- `tally::measure::excess_on` meets its contract.
use Rattle.std.proofs.Common.{◌≡◌, ◌≤◌, ◌*◌, ◌-◌}
use Rattle.laws.specs.Row.{at}
use Rattle.laws.specs.Sum.{sum}
use Rattle.job.specs.Board.{board_of}
use Rattle.tally.proofs.measure.excess_on.Given as goal

abbrev pub invariant-loop-v : goal.invariant-loop-v
invariant-loop-v l = record {
  value : l.above ≡ sum (λ u. at l.count u - (board_of l.job).width u) l.v;
  bound : l.above ≤ 65536 * l.v;
}
