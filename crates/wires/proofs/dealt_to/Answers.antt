-- `wires::dealt_to` meets its contract.
use Rattle.board.specs.Board.{deal}
use Rattle.wires.proofs.dealt_to.Goals as goal

pub returns-clause-value : goal.returns-clause-value
unfolding deal
returns-clause-value c = rw c.args.job.now.well_formed.c
