-- `text_reader::put_values` meets its contract.
use Rattle.std.proofs.Common.{◌≤◌, length}
use Rattle.text_reader.proofs.Walking.{Wrote}
use Rattle.text_reader.proofs.put_values.Given as goal

abbrev pub invariant-loop-i : goal.invariant-loop-i
invariant-loop-i l = (l.at ≤ length l.formed.text.now) × Wrote l.formed.text.now l.formed.head l.fn.room l.room l.at l.i
