-- `form::place::place_behind` meets its contract.
use Rattle.form.proofs.Places.{Reached}
use Rattle.form.proofs.place.place_behind.Given as goal

abbrev pub invariant-loop-b : goal.invariant-loop-b
invariant-loop-b l = Reached l.read l.line l.byte l.b-index
