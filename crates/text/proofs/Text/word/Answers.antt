-- `text::Text::word` meets its contract.
use native.Mathlib.Omega.{arith}
use Rattle.text.proofs.Gaining.{gains_none, gains_letter}
use Rattle.text.proofs.Text.word.Goals as goal

pub loop-letter-init : goal.loop-letter-init
loop-letter-init c = gains_none _

pub loop-letter-preserved : goal.loop-letter-preserved
loop-letter-preserved c = gains_letter _ _ _ _ _ (omega arith) c.loop-letter.invariant c.byte.ensures
