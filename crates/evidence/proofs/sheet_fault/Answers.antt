-- `evidence::sheet_fault` meets its contract.
use Rattle.std.proofs.Common.{rules}
use mathlib.Core.Path.{sym, ◌∙◌}
use Rattle.evidence.specs.Evidence.{sheet_fault}
use Rattle.evidence.proofs.Pointing.{sheet_otherwise}
use Rattle.evidence.proofs.sheet_fault.Goals as goal
use Rattle.evidence.proofs.sheet_fault.Goals.{in_default-via-in-SheetHead+in_default, in_default-via-in-SheetCrossbar+in_default, in_default-via-in-WrittenTotal+in_default, in_default-via-in_default}

pub returns-in-SheetHead-Byte : goal.returns-in-SheetHead-Byte
unfolding sheet_fault
returns-in-SheetHead-Byte c = search rules

pub returns-in-SheetCrossbar-Net : goal.returns-in-SheetCrossbar-Net
unfolding sheet_fault
returns-in-SheetCrossbar-Net c = search rules

pub returns-in-WrittenTotal-Crossbar : goal.returns-in-WrittenTotal-Crossbar
unfolding sheet_fault
returns-in-WrittenTotal-Crossbar c = search rules

pub returns-in_default : goal.returns-in_default
returns-in_default c =
    c.nothing.ensures
    ∙ sym (elim c.in_default.branch [
      | in_default-via-in-SheetHead+in_default w ↦ let d = w.in_default in sheet_otherwise _ _ (λ _. d.not-Byte-1) (λ e i q. cc) (λ e x q. cc)
      | in_default-via-in-SheetCrossbar+in_default w ↦ let d = w.in_default in sheet_otherwise _ _ (λ e p q. cc) (λ _. d.not-Net-1) (λ e x q. cc)
      | in_default-via-in-WrittenTotal+in_default w ↦ let d = w.in_default in sheet_otherwise _ _ (λ e p q. cc) (λ e i q. cc) (λ _. d.not-Crossbar-1)
      | in_default-via-in_default w ↦ sheet_otherwise _ _ (λ e p q. search rules) (λ e i q. search rules) (λ e x q. search rules)
    ])
