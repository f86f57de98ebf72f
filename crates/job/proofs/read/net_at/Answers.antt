-- `job::read::net_at` meets its contract.
use borrow.Author.Rules.{rules}
use Rattle.job.specs.Read.{net_at}
use Rattle.job.proofs.read.net_at.Goals as goal

pub returns-then-le : goal.returns-then-le
unfolding net_at
returns-then-le c = search rules

pub returns-then-job-first_at : goal.returns-then-job-first_at
unfolding net_at
returns-then-job-first_at c = search rules

pub returns : goal.returns
unfolding net_at
returns c = search rules
