-- `form::nets::nets` meets its contract.
use borrow.Author.Rules.{rules}
use native.Mathlib.Omega.{arith}
use Prim.Native.Nat.{◌+◌, ◌-◌}
use mathlib.Core.Path.{◌≡◌}
use Rattle.form.proofs.NetLines.{stops_here, goes_past, none_left}
use Rattle.form.proofs.nets.nets.Goals as goal

pub returns-in_err-end : goal.returns-in_err-end
returns-in_err-end c = let l = c.loop-i in
    let said = stops_here c.args.n c.args.text.now c.args.at l.end (c.args.n - l._i) c.in_err-end.field-0.0 (omega arith) l.invariant c.in_err-end.ensures in search rules

pub loop-i-preserved : goal.loop-i-preserved
loop-i-preserved c = let l = c.loop-i in
    let z : c.args.n - l._i - 1 ≡ c.args.n - (l._i + 1) = omega arith in
    rw z at (goes_past c.args.n c.args.text.now c.args.at l.end (c.args.n - l._i) _ (omega arith) l.invariant c.in_ok-end.ensures)

pub returns : goal.returns
returns c = none_left _ _ _ _ _ (omega arith) c.loop-i.invariant
