-- `form::number::number` meets its contract.
use Rattle.std.proofs.Common.{◌<◌}
use Rattle.form.specs.Walk.{Came}
use Rattle.form.proofs.number.number.Given as goal

abbrev pub invariant-loop-i : goal.invariant-loop-i
invariant-loop-i l = (l.value < 65536) × Came l.rest l.value l.i
