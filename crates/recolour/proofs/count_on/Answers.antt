-- `recolour::count_on`: a count over the front of the list.
use Rattle.std.proofs.Common.{◌≡◌, take, rules}
use Rattle.std.specs.List.{count_by}
use Rattle.board.specs.Rule.{on_two_test}
use Rattle.recolour.proofs.Collecting.{count_first}
use Rattle.recolour.proofs.count_on.Goals as goal

pub returns : goal.returns
returns c =
    let counted : c.count.result ≡ count_by (on_two_test c.args.two.x c.args.two.y) (take c.args.job.now.head.n c.args.plan.now) = search rules in
    rw counted (count_first _ _ _ _ c.requires)
