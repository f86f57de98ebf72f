-- `form::head::word` meets its contract.
use Rattle.std.proofs.Common.{◌+◌}
use Rattle.form.proofs.Heads.{Letters}
use Rattle.form.proofs.head.word.Given as goal

abbrev pub invariant-loop-i : goal.invariant-loop-i
invariant-loop-i l = Letters l.letters l.text l.at l.i (l.at + l.i)
