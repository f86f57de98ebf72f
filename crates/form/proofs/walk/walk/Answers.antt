-- `form::walk::walk` meets its contract.
use borrow.Author.Rules.{rules}
use Rattle.form.proofs.Whole.{in_board, in_count, in_nets, past_nets}
use Rattle.form.proofs.walk.walk.Goals as goal

pub returns-in_err-board : goal.returns-in_err-board
returns-in_err-board c = let said = in_board c.args.text.now c.in_err-board.field-0.0 c.in_err-board.ensures in search rules

pub returns-in_err-count : goal.returns-in_err-count
returns-in_err-count c = let said = in_count c.args.text.now _ c.in_ok-board.ensures c.in_err-count.field-0.0 c.in_err-count.ensures in search rules

pub returns-in_err-end : goal.returns-in_err-end
returns-in_err-end c = let said = in_nets c.args.text.now _ c.in_ok-board.ensures _ c.in_ok-count.ensures c.in_err-end.field-0.0 c.in_err-end.ensures in search rules

pub returns : goal.returns
returns c = past_nets _ _ c.in_ok-board.ensures _ c.in_ok-count.ensures _ c.in_ok-end.ensures
