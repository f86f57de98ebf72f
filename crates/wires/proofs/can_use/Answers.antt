-- `wires::can_use` meets its contract.
use Rattle.board.specs.Board.{usable}
use Rattle.wires.proofs.can_use.Goals as goal

pub returns : goal.returns
unfolding usable
returns c = rw c.args.job.now.well_formed.c
