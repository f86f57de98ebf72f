-- `audit::totals::check_totals` meets its contract.
use Rattle.std.proofs.Common.{ℕ, ◌*◌, rules}
use Rattle.words.specs.declared.Reason.TheVariants as reason
use Rattle.words.specs.Number.{word}
use Rattle.words.specs.Verdict.{refuse_if, at_crossbar}
use Rattle.laws.specs.Row.{at}
use Rattle.audit.specs.Audit.{wrong, totals_verdict}
use Rattle.audit.proofs.totals.check_totals.Goals as goal

pub returns : goal.returns
unfolding totals_verdict wrong
returns c = let written = λ (x : ℕ). word c.args.written.now (2 * x) in
    c.first_refusal.ensures (λ x. refuse_if (wrong (at c.args.totals.now) written x) reason.WrittenTotal (at_crossbar x)) (λ x b l q. search rules)
