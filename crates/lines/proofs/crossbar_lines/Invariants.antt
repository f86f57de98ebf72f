-- `lines::crossbar_lines` meets its contract.
use mathlib.Core.List.{[], ◌∷◌}
use Rattle.laws.specs.Row as row
use Rattle.text.specs.Text.{each}
use Rattle.text.specs.Forms.{line}
use Rattle.text.specs.Lent.{Gains}
use Rattle.lines.specs.Lines.{crossbar_word}
use Rattle.lines.proofs.crossbar_lines.Given as goal

abbrev pub invariant-loop-x : goal.invariant-loop-x
invariant-loop-x l = Gains l.fn.text l.text (each (λ k. line crossbar_word (k ∷ row.at l.totals k ∷ [])) l.x)
