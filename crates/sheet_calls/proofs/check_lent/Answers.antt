-- `sheet_calls::check_lent` meets its contract.
use Rattle.std.proofs.Common.{rules}
use Rattle.words.specs.Verdict.{◌then◌}
use Rattle.audit.specs.Audit.{lent_verdict}
use Rattle.sheet_calls.proofs.check_lent.Goals as goal

pub returns-in_err-refuse_if : goal.returns-in_err-refuse_if
unfolding lent_verdict ◌then◌
returns-in_err-refuse_if c = search rules

pub returns : goal.returns
unfolding lent_verdict ◌then◌
returns c = search rules
