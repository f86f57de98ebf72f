-- `tally::count::loads_on` meets its contract.
use Rattle.std.proofs.Common.{eqb, rules}
use Rattle.laws.specs.Row.{at}
use Rattle.board.specs.Board.{load}
use Rattle.tally.proofs.count.loads_on.Goals as goal

pub returns : goal.returns
unfolding load
returns c = c.count_ends.ensures (λ i. eqb (at c.args.plan.now i) c.args.x) (λ i b l q. search rules)
