-- `finish::calls::plan`: refused, or rounds from the deal.
use mathlib.Core.Path.{refl, sym}
use Rattle.std.proofs.Common.{rules}
use Rattle.finish.proofs.Answering.{plan_refused, plan_ready, plan_done}
use Rattle.refusals.proofs.Starting.{plan_fits}
use Rattle.finish.proofs.calls.plan.Goals as goal

pub deal-requires : goal.deal-requires
deal-requires c = (plan_fits c.in_ok-checked.checked _ _ _ c.in_ok-checked.ensures.bytes (sym c.in_ok-checked.ensures.verdict)).every_net

pub settle-requires : goal.settle-requires
settle-requires c = plan_ready _ _ _ (plan_fits _ _ _ _ c.in_ok-checked.ensures.bytes (sym c.in_ok-checked.ensures.verdict)) _ c.deal.ensures

pub returns-in_err-checked : goal.returns-in_err-checked
returns-in_err-checked c =
    let refused = plan_refused c.args.job.now c.args.plan.now c.args.s.now _ c.in_err-checked.ensures.verdict _ refl in
    search rules

pub returns : goal.returns
returns c = plan_done c.in_ok-checked.checked _ c.in_ok-checked.ensures.bytes _ _ (sym c.in_ok-checked.ensures.verdict) _ c.deal.ensures _ _ _ c.settle.ensures
