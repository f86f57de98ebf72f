-- `sheet::put::copy` meets its contract.
use Rattle.sheet.proofs.Putting.{copy_next}
use Rattle.words.specs.Lent.{onto}
use lib.Seq.{take_all}
use lib.ListN.{length-set}
use native.Mathlib.Omega.{arith}
use mathlib.Core.Path.{refl, ap, ◌∙◌}
use Rattle.sheet.proofs.put.copy.Goals as goal

pub loop-i-init : goal.loop-i-init
loop-i-init c = (omega arith, refl, refl)

pub loop-i-preserved : goal.loop-i-preserved
loop-i-preserved c = let l = c.loop-i in
    (omega arith, simp length-set l.invariant.1, copy_next _ _ l.room l.i (omega arith) (omega arith) l.invariant.2)

pub returns : goal.returns
returns c = let l = c.loop-i in
    let a = c.args in
    l.invariant.2 ∙ ap (λ (t : _). onto t a.room.now) (take_all l.i a.from.now (omega arith))
