-- `text::Text::numbers` meets its contract.
use Rattle.laws.specs.Row.{at}
use Rattle.text.specs.Text.{each}
use Rattle.text.specs.Forms.{spaced}
use Rattle.text.specs.Lent.{Gains}
use Rattle.text.proofs.Text.numbers.Given as goal

abbrev pub invariant-loop-n : goal.invariant-loop-n
invariant-loop-n l = Gains l.fn.self l.self (each (λ i. spaced (at l.list i)) l.n-index)
