-- `refusals::range::check_range` meets its contract.
use Rattle.std.proofs.Common.{◌≡◌, ℕ, subst, rules}
use Rattle.std.specs.Prelude.{not}
use Rattle.laws.specs.Row.{at}
use Rattle.words.specs.Verdict.{refuse_if, first_refusal, at_net}
use Rattle.board.specs.Board.{usable}
use Rattle.job.specs.Board.{board_of}
use Rattle.refusals.specs.Refusals.{range_verdict}
use Rattle.refusals.proofs.range.check_range.Goals as goal

pub returns : goal.returns
unfolding range_verdict
returns c = let j = c.args.job.now in
    let g = λ (i : ℕ). refuse_if (not (usable (board_of j) (at c.args.plan.now i))) c.args.reason (at_net i) in
    subst (λ (n : ℕ). c.first_refusal.result ≡ first_refusal g n) j.well_formed.n (c.first_refusal.ensures g (λ i b l q. search rules))
