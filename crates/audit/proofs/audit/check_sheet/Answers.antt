-- `audit::audit::check_sheet` meets its contract.
use Rattle.std.proofs.Common.{rules}
use mathlib.Core.Path.{sym, ◌∙◌}
use Rattle.words.specs.Verdict.{◌then◌}
use Rattle.audit.specs.Audit.{against_verdict}
use Rattle.audit.proofs.Parts.{length_is}
use Rattle.audit.proofs.audit.check_sheet.Goals as goal

pub returns-in_err-refuse_if : goal.returns-in_err-refuse_if
unfolding against_verdict ◌then◌
returns-in_err-refuse_if c = search rules

pub check_heads-requires : goal.check_heads-requires
check_heads-requires c = length_is _ _ c.sheet_length.ensures (sym c.refuse_if.ensures ∙ c.in_ok-refuse_if.was)

pub returns-in_err-check_heads : goal.returns-in_err-check_heads
unfolding against_verdict ◌then◌
returns-in_err-check_heads c = search rules

pub check_numbers-requires : goal.check_numbers-requires
check_numbers-requires c = length_is _ _ c.sheet_length.ensures (sym c.refuse_if.ensures ∙ c.in_ok-refuse_if.was)

pub returns : goal.returns
unfolding against_verdict ◌then◌
returns c = search rules
