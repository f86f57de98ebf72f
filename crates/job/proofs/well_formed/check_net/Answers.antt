-- `job::well_formed::check_net` meets its contract.
use borrow.Author.Rules.{rules}
use Rattle.words.specs.Verdict.{◌then◌}
use Rattle.job.specs.Check.{net_verdict}
use Rattle.job.proofs.well_formed.check_net.Goals as goal

pub returns-in_err-refuse_if : goal.returns-in_err-refuse_if
unfolding net_verdict ◌then◌
returns-in_err-refuse_if c = search rules

pub returns-in_err-refuse_if-2 : goal.returns-in_err-refuse_if-2
unfolding net_verdict ◌then◌
returns-in_err-refuse_if-2 c = search rules

pub returns : goal.returns
unfolding net_verdict ◌then◌
returns c = search rules
