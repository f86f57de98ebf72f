-- `text::Text::byte` meets its contract.
use mathlib.Core.Path.{refl}
use Rattle.text.proofs.Putting.{put_none, put_one}
use Rattle.text.proofs.Text.byte.Goals as goal

pub returns-then-self : goal.returns-then-self
returns-then-self c = record { same_room = refl; value = put_one _ _ _ c.if-self.true }

pub returns-else-self : goal.returns-else-self
returns-else-self c = record { same_room = refl; value = put_none _ _ _ c.if-self.false }
