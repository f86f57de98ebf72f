-- `search::lowest_over` meets its contract.
use Rattle.std.proofs.Common.{◌≡◌}
use Rattle.laws.specs.Row.{at}
use Rattle.job.specs.Board.{board_of}
use Rattle.search.specs.Search.{below}
use Rattle.search.specs.Columns.{fpga_below}
use Rattle.search.proofs.lowest_over.Given as goal

abbrev pub invariant-loop-x : goal.invariant-loop-x
invariant-loop-x l = l.lowest ≡ below l.job.head.f (fpga_below (board_of l.job) (at l.plan) l.x)
