-- `text::Text::line` meets its contract.
use Rattle.text.specs.Forms.{line}
use Rattle.text.proofs.Gaining.{gains_both}
use Rattle.text.proofs.Text.line.Goals as goal

pub returns : goal.returns
unfolding line
returns c = gains_both _ _ _ _ _ c.word.ensures (gains_both _ _ _ _ _ c.numbers.ensures c.byte.ensures)
