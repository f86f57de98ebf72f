-- `job_writer::check_write` meets its contract.
use borrow.Author.Rules.{rules}
use mathlib.Core.Path.{sym, ◌∙◌}
use Rattle.words.specs.Verdict.{◌then◌}
use Rattle.words.proofs.Order.{long_enough}
use Rattle.job.proofs.Stages.{ranged}
use Rattle.job_writer.specs.Write.{write_verdict}
use Rattle.job_writer.proofs.check_write.Goals as goal

pub returns-in_err-check_ranges : goal.returns-in_err-check_ranges
unfolding write_verdict ◌then◌
returns-in_err-check_ranges c = search rules

pub returns-in_err-refuse_if : goal.returns-in_err-refuse_if
unfolding write_verdict ◌then◌
returns-in_err-refuse_if c = search rules

pub returns-in_err-refuse_if-2 : goal.returns-in_err-refuse_if-2
unfolding write_verdict ◌then◌
returns-in_err-refuse_if-2 c = search rules

pub check_ends-requires : goal.check_ends-requires
check_ends-requires c = (
  (long_enough _ _).0 (sym c.refuse_if.ensures ∙ c.in_ok-refuse_if.was),
  (ranged _ _ _ _ (sym c.check_ranges.ensures ∙ c.in_ok-check_ranges.was)).n_high,
)

pub returns : goal.returns
unfolding write_verdict ◌then◌
returns c = search rules
