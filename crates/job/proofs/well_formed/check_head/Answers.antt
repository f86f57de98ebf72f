-- `job::well_formed::check_head` meets its contract.
use borrow.Author.Rules.{rules}
use native.Mathlib.Omega.{arith}
use mathlib.Core.Path.{sym, ◌∙◌}
use Rattle.job.proofs.Stages.{long_enough}
use Rattle.words.specs.Verdict.{◌then◌}
use Rattle.job.specs.Check.{head_verdict, short_verdict, count_verdict}
use Rattle.job.proofs.well_formed.check_head.Goals as goal

pub returns-in_err-refuse_if : goal.returns-in_err-refuse_if
unfolding head_verdict short_verdict count_verdict ◌then◌
returns-in_err-refuse_if c = search rules

pub returns-in_err-refuse_if-2 : goal.returns-in_err-refuse_if-2
unfolding head_verdict short_verdict count_verdict ◌then◌
returns-in_err-refuse_if-2 c = search rules

pub returns : goal.returns
unfolding head_verdict short_verdict count_verdict ◌then◌
returns c = search rules

pub read-requires : goal.read-requires
unfolding short_verdict
read-requires c = omega (arith, long_enough _ (sym c.refuse_if.ensures ∙ c.in_ok-refuse_if.was))

pub head_in-head-requires : goal.head_in-head-requires
unfolding short_verdict
head_in-head-requires c = long_enough _ (sym c.refuse_if.ensures ∙ c.in_ok-refuse_if.was)
