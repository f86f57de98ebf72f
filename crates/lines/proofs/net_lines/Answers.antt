-- `lines::net_lines` meets its contract.
use Rattle.text.proofs.Gaining.{gains_none_of, gains_next}
use Rattle.lines.proofs.net_lines.Goals as goal

pub loop-i-init : goal.loop-i-init
loop-i-init c = gains_none_of _ _

pub loop-i-preserved : goal.loop-i-preserved
loop-i-preserved c =
    let v = c.ends-v.ensures.first.0 in
    let w = c.ends-v.ensures.second.0 in
    gains_next _ _ _ _ _ c.loop-i.invariant (rw (v, w) at c.line.ensures)
