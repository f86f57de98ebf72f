-- `words::refuse_if` meets its contract.
use borrow.Author.Rules.{rules}
use Rattle.words.specs.Verdict.{refuse_if}
use Rattle.words.proofs.refuse_if.Goals as goal

pub returns-then-test : goal.returns-then-test
unfolding refuse_if
returns-then-test c = search rules

pub returns : goal.returns
unfolding refuse_if
returns c = search rules
