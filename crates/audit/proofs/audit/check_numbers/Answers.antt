-- `audit::audit::check_numbers` meets its contract.
use Rattle.std.proofs.Common.{rules}
use mathlib.Core.Path.{ap, sym, ◌∙◌}
use Rattle.words.specs.Verdict.{◌then◌, verdict_of}
use Rattle.words.proofs.Order.{then_next}
use Rattle.sheet.proofs.Saying.{front_alike}
use Rattle.fit.proofs.Parts.{fit_alike}
use Rattle.audit.specs.Audit.{numbers_verdict}
use Rattle.audit.proofs.Parts.{counted_totals, totals_alike}
use Rattle.audit.proofs.audit.check_numbers.Goals as goal

pub returns-in_err-totals : goal.returns-in_err-totals
unfolding numbers_verdict ◌then◌
returns-in_err-totals c = let told = c.check_fit.ensures.verdict ∙ fit_alike _ _ _ (front_alike _ _ _ _ c.numbers_of.ensures) _ in search rules

pub returns : goal.returns
unfolding numbers_verdict
returns c = let p = c.args.job.now.well_formed in
    let alike = front_alike _ _ _ _ c.numbers_of.ensures in
    rw c.totals_at.ensures at c.check_totals.ensures ∙ counted_totals _ _ c.in_ok-totals.ensures.counted _ p.ranged.c_high p.c _ _
    ∙ totals_alike _ _ _ alike _ ∙ sym (then_next _ _ (sym (c.check_fit.ensures.verdict ∙ fit_alike _ _ _ alike _) ∙ ap verdict_of c.in_ok-totals.was))
