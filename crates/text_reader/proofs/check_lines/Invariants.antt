-- `text_reader::check_lines` meets its contract.
use Rattle.std.proofs.Common.{◌≤◌, length}
use Rattle.text_reader.proofs.Walking.{Checked}
use Rattle.text_reader.proofs.check_lines.Given as goal

abbrev pub invariant-loop-i : goal.invariant-loop-i
invariant-loop-i l = (l.at ≤ length l.formed.text.now) × Checked l.formed.text.now l.formed.head l.at l.i
