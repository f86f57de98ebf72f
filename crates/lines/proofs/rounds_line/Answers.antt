-- `lines::rounds_line` meets its contract.
use Rattle.lines.proofs.Assembling.{rounds_told}
use Rattle.lines.proofs.rounds_line.Goals as goal

pub returns : goal.returns
returns c = rounds_told _ _ _ _ _ _ _ _ c.word.ensures c.number.ensures c.word-2.ensures c.number-2.ensures c.byte.ensures
