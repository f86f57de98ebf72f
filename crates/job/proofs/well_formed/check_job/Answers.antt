-- `job::well_formed::check_job` meets its contract.
use borrow.Author.Rules.{rules}
use mathlib.Core.Path.{refl, sym, ◌∙◌}
use Rattle.words.proofs.Order.{then_done}
use Rattle.job.proofs.Stages.{head_is_long, refused_head}
use Rattle.job.proofs.Reading.{nets_at_small}
use Rattle.job.proofs.Passing.{passes, head_few, length_told, check_is_checked, head_answers, length_answers, nets_answer}
use Rattle.words.specs.Verdict.{◌then◌}
use Rattle.std.proofs.Common.{Ok}
use Rattle.job.specs.declared.Job.{Job}
use Rattle.job.specs.Check.{job_verdict}
use Rattle.job.proofs.well_formed.check_job.Goals as goal

pub returns-in_err-check_head-clause-verdict : goal.returns-in_err-check_head-clause-verdict
returns-in_err-check_head-clause-verdict c =
    let refused = refused_head _ _ (sym c.check_head.ensures ∙ c.in_err-check_head.was) in
    search rules

pub returns-in_err-check_head-clause-heads : goal.returns-in_err-check_head-clause-heads
returns-in_err-check_head-clause-heads c =
    let answer = head_answers _ _ (sym c.check_head.ensures ∙ c.in_err-check_head.was) in
    search rules

pub returns-in_err-check_length-clause-heads : goal.returns-in_err-check_length-clause-heads
returns-in_err-check_length-clause-heads c =
    let answer = length_answers _ _ (sym c.check_head.ensures ∙ c.in_ok-check_head.was) (sym c.check_length.ensures ∙ c.in_err-check_length.was) in
    search rules

pub returns-in_err-check_nets-clause-heads : goal.returns-in_err-check_nets-clause-heads
returns-in_err-check_nets-clause-heads c =
    let nets = rw c.head_in-head.ensures at c.check_nets.ensures in
    let answer = nets_answer _ _ (sym c.check_head.ensures ∙ c.in_ok-check_head.was) (sym c.check_length.ensures ∙ c.in_ok-check_length.was) (sym nets ∙ c.in_err-check_nets.was) in
    search rules

pub returns-in_err-check_length-clause-verdict : goal.returns-in_err-check_length-clause-verdict
unfolding job_verdict ◌then◌
returns-in_err-check_length-clause-verdict c = search rules

pub returns-in_err-check_nets-clause-verdict : goal.returns-in_err-check_nets-clause-verdict
unfolding job_verdict ◌then◌
returns-in_err-check_nets-clause-verdict c = search rules

pub returns-clause-verdict : goal.returns-clause-verdict
unfolding job_verdict ◌then◌
returns-clause-verdict c = search rules

pub returns-clause-heads : goal.returns-clause-heads
returns-clause-heads c =
    let done = returns-clause-verdict c in
    let checked : Job = record { bytes = c.args.job; head = c.head_in-head.result; well_formed = rw c.head_in-head.ensures (passes _ (sym done)) } in
    check_is_checked c.args.job (Ok checked) done refl

pub head_in-head-requires : goal.head_in-head-requires
head_in-head-requires c = head_is_long _ (sym c.check_head.ensures ∙ c.in_ok-check_head.was)

pub check_length-requires : goal.check_length-requires
check_length-requires c = head_few _ _ c.head_in-head.ensures (sym c.check_head.ensures ∙ c.in_ok-check_head.was)

pub check_nets-requires-clause-whole : goal.check_nets-requires-clause-whole
check_nets-requires-clause-whole c = length_told _ _ c.head_in-head.ensures (sym c.check_head.ensures ∙ c.in_ok-check_head.was) (sym c.check_length.ensures ∙ c.in_ok-check_length.was)

pub check_nets-requires-clause-low : goal.check_nets-requires-clause-low
check_nets-requires-clause-low c = rw c.head_in-head.ensures (nets_at_small _)

pub invariant_of-result : goal.invariant_of-result
unfolding job_verdict
invariant_of-result c =
    let nets = rw c.head_in-head.ensures at c.check_nets.ensures in
    let done = then_done _ _ (sym c.check_head.ensures ∙ c.in_ok-check_head.was) (then_done _ _ (sym c.check_length.ensures ∙ c.in_ok-check_length.was) (sym nets ∙ c.in_ok-check_nets.was)) in
    record { well_formed = rw c.head_in-head.ensures (passes _ done) }
