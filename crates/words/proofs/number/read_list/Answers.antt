-- `words::number::read_list` meets its contract.
use Rattle.words.proofs.Bytes.{read_next, onto_whole, length_numbers}
use lib.Seq.{length-take-le}
use Rattle.words.specs.Number.{numbers}
use lib.ListN.{length, take, set, length-set}
use native.Mathlib.Omega.{arith}
use mathlib.Core.Path.{◌≡◌, refl, ap, ◌∙◌}
use Rattle.words.proofs.number.read_list.Goals as goal

pub loop-i-init : goal.loop-i-init
loop-i-init c = (omega arith, refl, refl)

pub loop-i-preserved : goal.loop-i-preserved
loop-i-preserved c = let l = c.loop-i in
    (omega arith, simp length-set l.invariant.1, ap (set l.out l.i) c.read.ensures ∙ read_next _ _ l.out l.i (omega arith) (omega arith) l.invariant.2)

pub returns : goal.returns
returns c = let l = c.loop-i in
    let a = c.args in
    let e : l.i ≡ length a.out.now = omega arith in
    let long : length (take (length a.out.now) (numbers a.s.now)) ≡ length a.out.now = length-take-le _ _ (omega (arith, length_numbers a.s.now)) in
    rw e at l.invariant.2 ∙ onto_whole _ _ long
