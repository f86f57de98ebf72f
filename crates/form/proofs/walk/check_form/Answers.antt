-- `form::walk::check_form` meets its contract.
use Rattle.form.proofs.Whole.{stops_short, stops_beyond}
use Rattle.form.proofs.walk.check_form.Goals as goal

pub returns-then-read-text-clause-form : goal.returns-then-read-text-clause-form
returns-then-read-text-clause-form c = rw c.refused_at-then-read-text.ensures (stops_beyond _ _ c.in-Ok.ensures c.if-read-text.true)

pub returns-in-Err-clause-form : goal.returns-in-Err-clause-form
returns-in-Err-clause-form c = rw c.refused_at.ensures (stops_short _ c.in-Err.field-0 c.in-Err.ensures)
