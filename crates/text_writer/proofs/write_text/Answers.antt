-- `text_writer::write_text` meets its contract.
use borrow.Author.Rules.{rules}
use mathlib.Core.Path.{sym, ◌∙◌}
use native.Mathlib.Omega.{arith}
use Prim.Native.Nat.{◌≤◌}
use lib.ListN.{length}
use Rattle.words.proofs.Order.{long_enough}
use Rattle.words.specs.Verdict.{◌then◌}
use Rattle.text_writer.specs.WriteText.{text_in, write_text_verdict}
use Rattle.text_writer.proofs.Long.{text_is}
use Rattle.text_writer.proofs.Putting.{text_put}
use Rattle.text_writer.proofs.Stages.{job_done}
use Rattle.text_writer.proofs.write_text.Goals as goal

pub returns-in_err-checked : goal.returns-in_err-checked
unfolding write_text_verdict ◌then◌
returns-in_err-checked c = search rules

pub returns-in_err-refuse_if : goal.returns-in_err-refuse_if
unfolding write_text_verdict ◌then◌
returns-in_err-refuse_if c = search rules

pub returns-clause-value : goal.returns-clause-value
unfolding write_text_verdict ◌then◌
returns-clause-value c = search rules

pub returns-clause-room_after : goal.returns-clause-room_after
returns-clause-room_after c =
    let job = c.in_ok-checked.checked in
    let bytes = c.in_ok-checked.ensures.bytes in
    let fits = (long_enough (length c.args.room.now) c.text_long-long.result).0 (sym c.refuse_if.ensures ∙ c.in_ok-refuse_if.was) in
    let put = text_put _ _ _ _ _ _ _ c.new-text.ensures.empty c.put_head.ensures c.put_nets.ensures (text_is job.bytes.now job.head job.well_formed) (omega (arith, fits)) in
    let long : length (text_in c.args.job.now) ≤ length c.args.room.now = rw (← bytes) (omega (arith, fits)) in
    let told = job_done c.args.job.now (length c.args.room.now) (sym c.in_ok-checked.ensures.verdict) ∙ (long_enough _ _).1 long in
    let front = rw bytes at put in
    rw told (search rules)
