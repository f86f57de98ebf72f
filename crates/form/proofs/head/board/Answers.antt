-- `form::head::board` meets its contract.
use borrow.Author.Rules.{rules}
use Rattle.form.proofs.Heads.{board_breaks, f_breaks, c_breaks, m_breaks, board_read}
use Rattle.form.proofs.head.board.Goals as goal

pub returns-in_err-start : goal.returns-in_err-start
returns-in_err-start c = let said = board_breaks c.args.text.now c.in_err-start.field-0.0 c.in_err-start.ensures in search rules

pub returns-in_err-f : goal.returns-in_err-f
returns-in_err-f c = let said = f_breaks c.args.text.now _ c.in_ok-start.ensures c.in_err-f.field-0.0 c.in_err-f.ensures in search rules

pub returns-in_err-c : goal.returns-in_err-c
returns-in_err-c c = let said = c_breaks c.args.text.now _ c.in_ok-start.ensures _ c.in_ok-f.ensures c.in_err-c.field-0.0 c.in_err-c.ensures in search rules

pub returns-in_err-m : goal.returns-in_err-m
returns-in_err-m c = let said = m_breaks c.args.text.now _ c.in_ok-start.ensures _ c.in_ok-f.ensures _ c.in_ok-c.ensures c.in_err-m.field-0.0 c.in_err-m.ensures in search rules

pub returns : goal.returns
returns c = board_read _ _ c.in_ok-start.ensures _ c.in_ok-f.ensures _ c.in_ok-c.ensures _ c.in_ok-m.ensures
