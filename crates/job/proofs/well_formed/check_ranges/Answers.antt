-- `job::well_formed::check_ranges` meets its contract.
use borrow.Author.Rules.{rules}
use Rattle.words.specs.Verdict.{◌then◌}
use Rattle.job.specs.Check.{ranges_verdict}
use Rattle.job.proofs.well_formed.check_ranges.Goals as goal

pub returns-in_err-refuse_if : goal.returns-in_err-refuse_if
unfolding ranges_verdict ◌then◌
returns-in_err-refuse_if c = search rules

pub returns-in_err-refuse_if-2 : goal.returns-in_err-refuse_if-2
unfolding ranges_verdict ◌then◌
returns-in_err-refuse_if-2 c = search rules

pub returns-in_err-refuse_if-3 : goal.returns-in_err-refuse_if-3
unfolding ranges_verdict ◌then◌
returns-in_err-refuse_if-3 c = search rules

pub returns-in_err-refuse_if-4 : goal.returns-in_err-refuse_if-4
unfolding ranges_verdict ◌then◌
returns-in_err-refuse_if-4 c = search rules

pub returns : goal.returns
unfolding ranges_verdict ◌then◌
returns c = search rules
