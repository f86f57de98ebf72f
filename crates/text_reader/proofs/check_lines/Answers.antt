-- `text_reader::check_lines` meets its contract.
use borrow.Author.Rules.{rules}
use native.Mathlib.Omega.{arith}
use mathlib.Core.Path.{◌≡◌, sym, ◌∙◌}
use Rattle.text_reader.proofs.Walking.{line_is, none_checked, checked_line, one_checked, one_refused}
use Rattle.form.proofs.Alone.{known_whole}
use Rattle.text_reader.proofs.check_lines.Goals as goal

pub loop-i-init : goal.loop-i-init
loop-i-init c = ((known_whole c.args.formed.now).within, none_checked c.args.formed.now.text.now c.args.formed.now.head)

pub unwrap-line-requires : goal.unwrap-line-requires
unwrap-line-requires c = let l = c.loop-i in checked_line c.args.formed.now.text.now c.args.formed.now.head l.at l.i (omega arith) l.invariant.1 (known_whole c.args.formed.now) _ c.net.ensures

pub returns-in_err-check_net : goal.returns-in_err-check_net
returns-in_err-check_net c = let l = c.loop-i in
    λ ends of e. let said = one_refused c.args.formed.now.text.now c.args.formed.now.head l.at l.i (omega arith) l.invariant.1 _ (line_is _ _ _ _ c.net.ensures c.unwrap-line.ensures) c.in_err-check_net.field-0.0 (sym c.check_net.ensures ∙ c.in_err-check_net.was) ends of e in search rules

pub loop-i-preserved : goal.loop-i-preserved
loop-i-preserved c = let l = c.loop-i in
    let line = line_is _ _ _ _ c.net.ensures c.unwrap-line.ensures in
    (line.within, one_checked c.args.formed.now.text.now c.args.formed.now.head l.at l.i (omega arith) l.invariant.1 _ line (sym c.check_net.ensures ∙ c.in_ok-check_net.was))

pub returns : goal.returns
returns c = let l = c.loop-i in
    λ ends of e. let all : l.i ≡ c.args.formed.now.head.n = omega arith in sym (rw all at (l.invariant.1 ends of e).1)
