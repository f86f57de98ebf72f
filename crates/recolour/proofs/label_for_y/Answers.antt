-- `recolour::label_for_y`: by the law of an odd and of an even number.
use Rattle.recolour.proofs.Marking.{mark_odd, mark_even}
use native.Mathlib.Omega.{arith}
use mathlib.Core.Path.{sym}
use Rattle.recolour.proofs.label_for_y.Goals as goal

pub returns-then-count-evened : goal.returns-then-count-evened
returns-then-count-evened c = sym (mark_odd _ _ (omega arith))

pub returns-else-count-evened : goal.returns-else-count-evened
returns-else-count-evened c = sym (mark_even _ _ (omega arith))
