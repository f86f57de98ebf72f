-- `sheet_calls::write_sheet` meets its contract.
use Rattle.std.proofs.Common.{rules}
use native.Mathlib.Omega.{arith}
use mathlib.Core.Path.{sym, ◌∙◌}
use Rattle.words.specs.Verdict.{◌then◌}
use Rattle.audit.specs.Audit.{write_sheet_verdict}
use Rattle.sheet_calls.proofs.Lending.{plan_is_long, room_is_long}
use Rattle.sheet_calls.proofs.write_sheet.Goals as goal

pub returns-in_err-checked : goal.returns-in_err-checked
unfolding write_sheet_verdict ◌then◌
returns-in_err-checked c = search rules

pub returns-in_err-check_lent : goal.returns-in_err-check_lent
unfolding write_sheet_verdict ◌then◌
returns-in_err-check_lent c = search rules

pub check_fit-requires : goal.check_fit-requires
check_fit-requires c = omega (arith, plan_is_long _ _ _ (sym c.check_lent.ensures ∙ c.in_ok-check_lent.was))

pub put_sheet-requires-clause-every_net : goal.put_sheet-requires-clause-every_net
put_sheet-requires-clause-every_net c = omega (arith, plan_is_long _ _ _ (sym c.check_lent.ensures ∙ c.in_ok-check_lent.was))

pub put_sheet-requires-clause-room_is_long : goal.put_sheet-requires-clause-room_is_long
put_sheet-requires-clause-room_is_long c = room_is_long _ _ _ (sym c.check_lent.ensures ∙ c.in_ok-check_lent.was)

pub returns-in_err-totals : goal.returns-in_err-totals
unfolding write_sheet_verdict ◌then◌
returns-in_err-totals c = search rules

pub returns : goal.returns
unfolding write_sheet_verdict ◌then◌
returns c = search rules
