-- `refusals::start::check_start` meets its contract.
use Rattle.refusals.proofs.Starting.{plan_fits}
use mathlib.Core.Path.{sym}
use Rattle.refusals.proofs.start.check_start.Goals as goal

pub check_range-requires : goal.check_range-requires
check_range-requires c = (plan_fits c.in_ok-checked.checked _ _ _ c.in_ok-checked.ensures.bytes (sym c.in_ok-checked.ensures.verdict)).every_net
