-- `form::nets::net` meets its contract.
use borrow.Author.Rules.{rules}
use Rattle.form.proofs.NetLines.{broken_first, broken_second, both_numbers}
use Rattle.form.proofs.nets.net.Goals as goal

pub returns-in_err-first : goal.returns-in_err-first
returns-in_err-first c = let said = broken_first c.args.text.now c.args.at c.in_err-first.field-0.0 c.in_err-first.ensures in search rules

pub returns-in_err-second : goal.returns-in_err-second
returns-in_err-second c = let said = broken_second c.args.text.now c.args.at _ c.in_ok-first.ensures c.in_err-second.field-0.0 c.in_err-second.ensures in search rules

pub returns : goal.returns
returns c = both_numbers _ _ _ c.in_ok-first.ensures _ c.in_ok-second.ensures
