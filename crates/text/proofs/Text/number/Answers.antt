-- `text::Text::number` meets its contract.
use Rattle.text.specs.Forms.{spaced}
use Rattle.text.proofs.Gaining.{gains_both}
use Rattle.text.proofs.Text.number.Goals as goal

pub returns : goal.returns
unfolding spaced
returns c = gains_both _ _ _ _ _ c.byte.ensures c.digits.ensures
