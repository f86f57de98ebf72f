-- `evidence::job_fault` meets its contract.
use Rattle.std.proofs.Common.{rules}
use mathlib.Core.Path.{sym, ◌∙◌}
use Rattle.evidence.specs.Evidence.{job_fault}
use Rattle.evidence.proofs.Pointing.{job_elsewhere, job_otherwise}
use Rattle.evidence.proofs.job_fault.Goals as goal
use Rattle.evidence.proofs.job_fault.Goals.{in_default-via-in-FirstEnd+in_default, in_default-via-in-SameEnd+in_default, in_default-via-in_default}

pub returns-in-FirstEnd-End : goal.returns-in-FirstEnd-End
unfolding job_fault
returns-in-FirstEnd-End c = search rules

pub returns-in-SameEnd-End : goal.returns-in-SameEnd-End
unfolding job_fault
returns-in-SameEnd-End c = search rules

pub returns-in_default : goal.returns-in_default
returns-in_default c =
    c.nothing.ensures
    ∙ sym (elim c.in_default.branch [
      | in_default-via-in-FirstEnd+in_default w ↦ job_elsewhere _ _ w.in_default.not-End-1
      | in_default-via-in-SameEnd+in_default w ↦ job_elsewhere _ _ w.in_default.not-End-1
      | in_default-via-in_default w ↦ job_otherwise _ _ (λ e i at q. search rules) (λ e i at q. search rules) (λ e i at q. search rules)
    ])
