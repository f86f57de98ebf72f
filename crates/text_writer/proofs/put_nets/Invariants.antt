-- `text_writer::put_nets` meets its contract.
use mathlib.Core.Path.{◌≡◌}
use Prim.Native.Nat.{◌*◌}
use lib.ListN.{drop}
use Rattle.job.specs.Job.{nets_in}
use Rattle.text.specs.Text.{puts}
use Rattle.text.specs.Lent.{text_so_far}
use Rattle.form.specs.Form.{nets_text}
use Rattle.text_writer.proofs.put_nets.Given as goal

abbrev pub invariant-loop-i : goal.invariant-loop-i
invariant-loop-i l =
    (l.text.room.ghost_name ≡ l.fn.text.room.ghost_name)
    × (puts (text_so_far l.text) (nets_text (drop (2 * l.i) (nets_in l.job.bytes.now))) ≡ puts (text_so_far l.fn.text) (nets_text (nets_in l.job.bytes.now)))
