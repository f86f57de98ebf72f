-- `job::well_formed::check_length` meets its contract.
use borrow.Author.Rules.{rules}
use Rattle.words.specs.Verdict.{◌then◌}
use Rattle.job.specs.Check.{length_verdict}
use Rattle.job.proofs.well_formed.check_length.Goals as goal

pub returns-in_err-refuse_if : goal.returns-in_err-refuse_if
unfolding length_verdict ◌then◌
returns-in_err-refuse_if c = search rules

pub returns : goal.returns
unfolding length_verdict ◌then◌
returns c = search rules
