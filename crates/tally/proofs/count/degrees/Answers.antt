-- `tally::count::degrees` meets its contract.
use Rattle.std.proofs.Common.{true, rules}
use Rattle.board.specs.Board.{degree}
use Rattle.tally.proofs.count.degrees.Goals as goal

pub returns : goal.returns
unfolding degree
returns c = c.count_ends.ensures (λ _. true) (λ i b l q. search rules)
