-- `lines::crossbar_lines` meets its contract.
use Rattle.text.proofs.Gaining.{gains_none_of, gains_next}
use Rattle.lines.proofs.crossbar_lines.Goals as goal

pub loop-x-init : goal.loop-x-init
loop-x-init c = gains_none_of _ _

pub loop-x-preserved : goal.loop-x-preserved
loop-x-preserved c = gains_next _ _ _ _ _ c.loop-x.invariant c.line.ensures
