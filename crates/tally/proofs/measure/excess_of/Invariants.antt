-- `tally::measure::excess_of` meets its contract.
use Rattle.std.proofs.Common.{◌≡◌, ◌≤◌, ◌*◌}
use Rattle.laws.specs.Row.{at}
use Rattle.laws.specs.Sum.{sum}
use Rattle.job.specs.Board.{board_of}
use Rattle.tally.proofs.Crossbars.{excess_on}
use Rattle.tally.proofs.measure.excess_of.Given as goal

abbrev pub invariant-loop-x : goal.invariant-loop-x
invariant-loop-x l = record {
  value : l.above ≡ sum (excess_on (board_of l.job) (at l.plan)) l.x;
  bound : l.above ≤ 65536 * 256 * l.x;
}
