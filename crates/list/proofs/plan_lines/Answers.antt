-- `list::plan_lines` meets its contract.
use Rattle.list.proofs.Telling.{plan_told}
use Rattle.list.proofs.plan_lines.Goals as goal

pub returns : goal.returns
returns c =
    plan_told c.args.job.now _ _ c.totals_of-totals.ensures _ _ _ _ _ _ _ c.board_line.ensures c.rounds_line.ensures c.net_lines.ensures c.crossbar_lines.ensures
