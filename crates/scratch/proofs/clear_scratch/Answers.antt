-- `scratch::clear_scratch` meets its contract, by the law at its length. Assumes nothing.
use Rattle.scratch.specs.Scratch.{scratch_long}
use Rattle.scratch.proofs.Filling.{zeroed}
use borrow.Author.Rules.{rules}
use Rattle.scratch.proofs.clear_scratch.Goals as goal

pub returns : goal.returns
returns c = zeroed _ scratch_long _ (search rules) (c.fill.ensures.after (λ y e. e))
