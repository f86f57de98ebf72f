-- `tally::count::ends_at` meets its contract.
use Rattle.std.proofs.Common.{eq-eqb, sym, ◌∙◌}
use Rattle.job.specs.Board.{board_of}
use Rattle.tally.proofs.Walks.{ends_first, ends_second}
use Rattle.tally.proofs.count.ends_at.Goals as goal

pub returns-then-first-v : goal.returns-then-first-v
returns-then-first-v c =
    let e = c.ends-first.ensures.first.0 in
    let f = c.if-first-v.true in
    rw (eq-eqb _ _ f) (ends_first (board_of c.args.job.now) _ _ (c.args.job.now.well_formed.nets c.args.i c.requires).apart (sym e ∙ f))

pub returns-else-first-v : goal.returns-else-first-v
returns-else-first-v c =
    rw c.ends-first.ensures.second.0 (ends_second (board_of c.args.job.now) _ _ (λ q. c.if-first-v.false (c.ends-first.ensures.first.0 ∙ q)))
