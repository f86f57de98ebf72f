-- `refusals::degrees::check_degrees` meets its contract.
use Rattle.std.proofs.Common.{◌≡◌, ℕ, arith, subst, rules}
use Rattle.words.specs.declared.Reason.TheVariants as reason
use Rattle.words.specs.Verdict.{refuse_if, first_refusal, at_fpga}
use Rattle.std.specs.Prelude.{ltb}
use Rattle.board.specs.Board.{degree, limit}
use Rattle.job.specs.Board.{board_of}
use Rattle.refusals.specs.Refusals.{degree_verdict}
use Rattle.refusals.proofs.degrees.check_degrees.Goals as goal

pub returns : goal.returns
unfolding degree_verdict
returns c = let j = c.args.job.now in
    let g = λ (v : ℕ). refuse_if (ltb (limit (board_of j) v) (degree (board_of j) v)) reason.Degree (at_fpga v) in
    subst (λ (n : ℕ). c.first_refusal.result ≡ first_refusal g n) j.well_formed.f
    (c.first_refusal.ensures g (λ v b l q. let e = c.degrees-count.ensures.count v (omega (arith, j.well_formed.ranged.f_high)) in search rules))
