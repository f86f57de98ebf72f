-- `text::Text::numbers` meets its contract.
use Rattle.text.proofs.Gaining.{gains_none_of, gains_next}
use Rattle.text.proofs.Text.numbers.Goals as goal

pub loop-n-init : goal.loop-n-init
loop-n-init c = gains_none_of _ _

pub loop-n-preserved : goal.loop-n-preserved
loop-n-preserved c = gains_next _ _ _ _ _ c.loop-n.invariant c.number.ensures
