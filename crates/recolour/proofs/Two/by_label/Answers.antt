-- `recolour::Two::by_label`: by the law of each label.
use Rattle.recolour.proofs.Marking.{on_x, on_y}
use mathlib.Core.Path.{sym}
use Rattle.recolour.proofs.Two.by_label.Goals as goal

pub returns-then-label-mark : goal.returns-then-label-mark
returns-then-label-mark c = sym (on_y _ _ _ _ c.if-label-mark.true)

pub returns-else-label-mark : goal.returns-else-label-mark
returns-else-label-mark c = sym (on_x _ _ _ _ c.if-label-mark.false)
