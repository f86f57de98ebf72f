-- `text_writer::number_then` meets its contract.
use Rattle.text.proofs.Gaining.{gains_both}
use Rattle.form.specs.Form.{number_then}
use Rattle.text_writer.proofs.number_then.Goals as goal

pub returns : goal.returns
unfolding number_then
returns c = gains_both _ _ _ _ _ c.digits.ensures c.byte.ensures
