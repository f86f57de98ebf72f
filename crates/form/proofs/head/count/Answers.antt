-- `form::head::count` meets its contract.
use borrow.Author.Rules.{rules}
use Rattle.form.proofs.Heads.{count_breaks, count_read}
use Rattle.form.proofs.head.count.Goals as goal

pub returns-in_err-start : goal.returns-in_err-start
returns-in_err-start c = let said = count_breaks c.args.text.now c.args.at c.requires c.in_err-start.field-0.0 c.in_err-start.ensures in search rules

pub returns : goal.returns
returns c = count_read _ _ c.requires _ c.in_ok-start.ensures _ c.number.ensures
