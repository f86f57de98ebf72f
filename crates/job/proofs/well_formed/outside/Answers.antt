-- `job::well_formed::outside` meets its contract.
use Rattle.job.specs.Check.{outside}
use borrow.Author.Tests.{lt-ltb, le-ltb}
use mathlib.Core.Path.{sym}
use Rattle.job.proofs.well_formed.outside.Goals as goal

pub returns-then-x-smallest : goal.returns-then-x-smallest
unfolding outside
returns-then-x-smallest c = sym (simp (lt-ltb _ _ c.if-x-smallest.true))

pub returns-else-x-smallest : goal.returns-else-x-smallest
unfolding outside
returns-else-x-smallest c = sym (simp (le-ltb _ _ c.if-x-smallest.false))
