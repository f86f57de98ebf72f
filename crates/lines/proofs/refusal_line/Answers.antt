-- `lines::refusal_line` meets its contract.
use Rattle.lines.proofs.Assembling.{refusal_told}
use Rattle.lines.proofs.Short.{refusal_short}
use Rattle.lines.proofs.refusal_line.Goals as goal

pub returns : goal.returns
returns c = record {
  gains = refusal_told _ _ _ _ _ c.word.ensures c.verdict_text.ensures.gains c.byte.ensures;
  short = refusal_short _ c.verdict_text.ensures.short;
}
