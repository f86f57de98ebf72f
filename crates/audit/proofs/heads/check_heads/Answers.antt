-- `audit::heads::check_heads` meets its contract.
use Rattle.std.proofs.Common.{◌≡◌, ℕ, ◌*◌, ◌/◌, subst, rules}
use Rattle.words.specs.declared.Reason.TheVariants as reason
use Rattle.words.specs.Verdict.{refuse_if, first_refusal, at_byte, ◌then◌}
use Rattle.audit.specs.Audit.{unlike, heads_verdict}
use Rattle.audit.proofs.heads.check_heads.Goals as goal

pub returns-in_err-first_refusal : goal.returns-in_err-first_refusal
unfolding heads_verdict unlike ◌then◌
returns-in_err-first_refusal c = let j = c.args.job.now in
    let g = λ (k : ℕ). refuse_if (unlike j.bytes.now c.args.sheet.now k) reason.SheetHead (at_byte (2 * k)) in
    let walk = subst (λ (n : ℕ). c.first_refusal.result ≡ first_refusal g (n / 2)) j.well_formed.start (c.first_refusal.ensures g (λ k b l q. search rules)) in
    search rules

pub returns : goal.returns
unfolding heads_verdict unlike ◌then◌
returns c = let j = c.args.job.now in
    let g = λ (k : ℕ). refuse_if (unlike j.bytes.now c.args.sheet.now k) reason.SheetHead (at_byte (2 * k)) in
    let walk = subst (λ (n : ℕ). c.first_refusal.result ≡ first_refusal g (n / 2)) j.well_formed.start (c.first_refusal.ensures g (λ k b l q. search rules)) in
    search rules
