-- `text_writer::nets_long` meets its contract.
use mathlib.Core.Path.{◌≡◌}
use Prim.Native.Nat.{◌+◌, ◌*◌, ◌≤◌}
use lib.ListN.{length, drop}
use Rattle.job.specs.Job.{nets_in}
use Rattle.form.specs.Form.{nets_text}
use Rattle.text_writer.proofs.nets_long.Given as goal

abbrev pub invariant-loop-i : goal.invariant-loop-i
invariant-loop-i l =
    (l.long ≤ 8 * l.i)
    × (l.long + length (nets_text (drop (2 * l.i) (nets_in l.job.bytes.now))) ≡ length (nets_text (nets_in l.job.bytes.now)))
