-- `words::first_refusal` meets its contract.
use Rattle.std.proofs.Common.{refl, sym, ◌∙◌, arith, rules}
use Rattle.words.specs.Verdict.{first_refusal}
use Rattle.words.proofs.Order.{first_next, first_stops}
use Rattle.words.proofs.first_refusal.Goals as goal

pub loop-i-init : goal.loop-i-init
unfolding first_refusal
loop-i-init g c = λ h s. refl

pub returns-in_err-check : goal.returns-in_err-check
returns-in_err-check g c = λ h s.
    let l = c.loop-i in
    let said = first_stops h l.i c.args.n _ (l.invariant h s) (sym (s l.i c.check.result (omega arith) c.check.ensures) ∙ c.in_err-check.was) (omega arith) in
    search rules

pub loop-i-preserved : goal.loop-i-preserved
loop-i-preserved g c = λ h s.
    let l = c.loop-i in
    first_next h l.i (l.invariant h s) ∙ sym (s l.i c.check.result (omega arith) c.check.ensures) ∙ c.in_ok-check.was
