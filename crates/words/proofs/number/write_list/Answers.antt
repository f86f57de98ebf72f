-- `words::number::write_list` meets its contract.
use Rattle.words.proofs.Bytes.{write_next}
use Rattle.words.specs.Number.{bytes}
use Rattle.words.specs.Lent.{onto}
use lib.Seq.{take_all}
use native.Mathlib.Omega.{arith}
use mathlib.Core.Path.{refl, ap, ◌∙◌}
use Rattle.words.proofs.number.write_list.Goals as goal

pub loop-i-init : goal.loop-i-init
loop-i-init c = (omega arith, refl, refl)

pub loop-i-preserved : goal.loop-i-preserved
loop-i-preserved c = let l = c.loop-i in
    let w = c.write in
    let z = w.auto.room in
    (omega arith, omega arith, w.ensures ∙ write_next _ _ l.room l.i (omega arith) (omega arith) l.invariant.2)

pub returns : goal.returns
returns c = let l = c.loop-i in
    let a = c.args in
    l.invariant.2 ∙ ap (λ (t : _). onto (bytes t) a.room.now) (take_all l.i a.xs.now (omega arith))
