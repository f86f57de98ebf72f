-- `audit::audit::audit_job` meets its contract.
use Rattle.std.proofs.Common.{rules}
use Rattle.words.specs.Verdict.{◌then◌}
use Rattle.audit.specs.Audit.{audit_verdict}
use Rattle.audit.proofs.audit.audit_job.Goals as goal

pub returns-in_err-checked-clause-verdict : goal.returns-in_err-checked-clause-verdict
unfolding audit_verdict ◌then◌
returns-in_err-checked-clause-verdict c = search rules

pub returns-in_err-check_sheet-clause-verdict : goal.returns-in_err-check_sheet-clause-verdict
unfolding audit_verdict ◌then◌
returns-in_err-check_sheet-clause-verdict c = search rules

pub returns-clause-verdict : goal.returns-clause-verdict
unfolding audit_verdict ◌then◌
returns-clause-verdict c = search rules
