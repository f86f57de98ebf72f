-- `tally::count::totals_of` meets its contract.
use Rattle.std.proofs.Common.{rules}
use Rattle.board.specs.Board.{total}
use Rattle.tally.proofs.count.totals_of.Goals as goal

pub returns : goal.returns
unfolding total
returns c = λ J e. rw e (c.count_nets.ensures (λ _. 1) (λ i b l q. search rules))
