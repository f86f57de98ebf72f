-- `words::number::read` meets its contract.
use Rattle.words.specs.Number.{word}
use borrow.Author.Rules.{rules}
use Rattle.words.proofs.number.read.Goals as goal

pub returns : goal.returns
unfolding word
returns c = search rules
