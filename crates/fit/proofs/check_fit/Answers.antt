-- `fit::check_fit` meets its contract.
use borrow.Author.Rules.{rules}
use native.Mathlib.Omega.{arith}
use mathlib.Core.Path.{refl, sym, ◌∙◌}
use Rattle.words.specs.Verdict.{◌then◌}
use Rattle.laws.specs.Row.{at}
use Rattle.refusals.proofs.Faults.{range_says}
use Rattle.job.specs.Board.{board_of}
use Rattle.fit.specs.Fit.{fit_verdict}
use Rattle.tally.proofs.Walks.{crossbar_low}
use Rattle.fit.proofs.Parts.{counted_spread}
use Rattle.fit.proofs.check_fit.Goals as goal

pub returns-in_err-check_range-clause-verdict : goal.returns-in_err-check_range-clause-verdict
unfolding fit_verdict ◌then◌
returns-in_err-check_range-clause-verdict c = search rules

pub check_loads-requires-clause-in_range : goal.check_loads-requires-clause-in_range
check_loads-requires-clause-in_range c = (range_says _ _ _).0 (sym c.check_range.ensures ∙ c.in_ok-check_range.was)

pub returns-in_err-check_loads-clause-verdict : goal.returns-in_err-check_loads-clause-verdict
unfolding fit_verdict ◌then◌
returns-in_err-check_loads-clause-verdict c = search rules

pub totals_of-totals-requires-clause-in_range : goal.totals_of-totals-requires-clause-in_range
totals_of-totals-requires-clause-in_range c = let p = c.args.job.now.well_formed in
    let told = (range_says (board_of c.args.job.now) (at c.args.plan.now) c.args.reason).0 (sym c.check_range.ensures ∙ c.in_ok-check_range.was) in
    λ i l. crossbar_low c.args.job.now (at c.args.plan.now) told i (omega arith) _ refl

pub returns-in_err-check_spread-clause-verdict : goal.returns-in_err-check_spread-clause-verdict
unfolding fit_verdict ◌then◌
returns-in_err-check_spread-clause-verdict c = let job = c.args.job.now in
    let p = job.well_formed in
    let told = c.check_spread.ensures ∙ counted_spread _ _ (c.totals_of-totals.ensures (board_of job) (sym p.n)) _ p.ranged.c_high p.c in
    search rules

pub returns-clause-verdict : goal.returns-clause-verdict
unfolding fit_verdict ◌then◌
returns-clause-verdict c = let job = c.args.job.now in
    let p = job.well_formed in
    let told = c.check_spread.ensures ∙ counted_spread _ _ (c.totals_of-totals.ensures (board_of job) (sym p.n)) _ p.ranged.c_high p.c in
    search rules

pub returns-clause-counted : goal.returns-clause-counted
returns-clause-counted c = c.totals_of-totals.ensures (board_of c.args.job.now) (sym c.args.job.now.well_formed.n)
