-- `list::list` meets its contract.
use borrow.Author.Rules.{rules}
use Rattle.text.proofs.Gaining.{gains_at_front}
use Rattle.list.proofs.Answered.{every_net, refusal_listed, plan_listed, job_passes}
use Rattle.list.proofs.list.Goals as goal
use Rattle.list.proofs.list.Goals.{in-Err, in-Ok}

pub open-requires : goal.open-requires
open-requires c = job_passes c.args.job _ _ _ _ _ c.plan-planned.ensures _ c.in-Ok.is

pub plan_lines-requires-clause-every_net : goal.plan_lines-requires-clause-every_net
plan_lines-requires-clause-every_net c = every_net c.args.job _ _ _ _ _ c.plan-planned.ensures _ c.in-Ok.is c.open.result c.open.ensures

pub returns : goal.returns
returns c = elim c.match-planned.branch [
  | in-Err w ↦ (
      let gains = rw (← w.text-is) at w.refusal_line.ensures.gains in
      let told = gains_at_front _ _ c.args.room.now _ c.new-text.ensures.empty gains in
      refusal_listed c.args.job _ _ _ _ _ c.plan-planned.ensures _ w.in-Err.is _ _ _ (search rules) w.refusal_line.ensures.short)
  | in-Ok w ↦ (
      let gains = rw (← w.text-is) at w.plan_lines.ensures in
      let told = gains_at_front _ _ c.args.room.now _ c.new-text.ensures.empty gains in
      plan_listed c.args.job _ _ _ _ _ c.plan-planned.ensures _ w.in-Ok.is w.open.result w.open.ensures _ _ _ (search rules))
]
