-- `wires::limit_of` meets its contract.
use Rattle.board.specs.Board.{limit}
use Rattle.wires.proofs.limit_of.Goals as goal

pub returns-clause-value : goal.returns-clause-value
unfolding limit
returns-clause-value c = rw (c.args.job.now.well_formed.c, c.width_of.ensures.value)
