-- `text_reader::check_values` meets its contract.
use borrow.Author.Rules.{rules}
use mathlib.Core.Path.{sym, ◌∙◌}
use Rattle.words.specs.Verdict.{◌then◌}
use Rattle.job.proofs.Stages.{ranged}
use Rattle.text_reader.specs.ReadText.{read_verdict}
use Rattle.text_reader.proofs.check_values.Goals as goal

pub returns-in_err-check_ranges : goal.returns-in_err-check_ranges
unfolding read_verdict ◌then◌
returns-in_err-check_ranges c = λ ends of e. search rules

pub check_lines-requires : goal.check_lines-requires
check_lines-requires c = (ranged _ _ _ _ (sym c.check_ranges.ensures ∙ c.in_ok-check_ranges.was)).n_high

pub returns-in_err-check_lines : goal.returns-in_err-check_lines
unfolding read_verdict ◌then◌
returns-in_err-check_lines c = λ ends of e. let said = c.check_lines.ensures ends of e in search rules

pub returns : goal.returns
unfolding read_verdict ◌then◌
returns c = λ ends of e. let said = c.check_lines.ensures ends of e in search rules
