-- `fit::spread::check_spread` meets its contract.
use Rattle.std.proofs.Common.{length, rules}
use Rattle.words.specs.declared.Reason.TheVariants as reason
use Rattle.words.specs.Verdict.{refuse_if, at_crossbar}
use Rattle.laws.specs.Row.{at}
use Rattle.fit.specs.Fit.{low, spread_verdict}
use Rattle.fit.proofs.spread.check_spread.Goals as goal

pub returns : goal.returns
unfolding spread_verdict low
returns c = let xs = c.args.totals.now in
    c.first_refusal.ensures (λ x. refuse_if (low (at xs) (length xs) x) reason.Spread (at_crossbar x)) (λ x b l q. search rules)
