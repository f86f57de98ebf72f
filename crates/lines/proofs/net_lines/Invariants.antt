-- `lines::net_lines` meets its contract.
use Rattle.laws.specs.Row as row
use Rattle.job.specs.Board.{board_of}
use Rattle.text.specs.Text.{each}
use Rattle.text.specs.Lent.{Gains}
use Rattle.lines.specs.Lines.{net_line}
use Rattle.lines.proofs.net_lines.Given as goal

abbrev pub invariant-loop-i : goal.invariant-loop-i
invariant-loop-i l = Gains l.fn.text l.text (each (net_line (board_of l.job) (row.at l.plan)) l.i)
