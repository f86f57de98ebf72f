-- `text::Text::word` meets its contract.
use lib.ListN.{take}
use Rattle.text.specs.Lent.{Gains}
use Rattle.text.proofs.Text.word.Given as goal

abbrev pub invariant-loop-letter : goal.invariant-loop-letter
invariant-loop-letter l = Gains l.fn.self l.self (take l.letter-index l.letters)
