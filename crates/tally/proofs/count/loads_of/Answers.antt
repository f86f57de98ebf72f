-- `tally::count::loads_of` meets its contract.
use Rattle.std.proofs.Common.{ℕ, subst, rules}
use Rattle.laws.specs.Row.{at}
use Rattle.laws.specs.Count.{Counted}
use Rattle.board.specs.Board.{load, ends_at}
use Rattle.job.specs.Board.{board_of}
use Rattle.tally.specs.Picked.{nets_picked}
use Rattle.tally.proofs.count.loads_of.Goals as goal

pub returns : goal.returns
unfolding load
returns c =
    let g = ends_at (board_of c.args.job.now) c.args.v in
    subst (λ (n : ℕ). Counted c.count_nets.result 128 (nets_picked (at c.args.plan.now) g n)) c.args.job.now.well_formed.n
    (c.count_nets.ensures g (λ i b l q. search rules))
