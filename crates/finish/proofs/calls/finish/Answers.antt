-- `finish::calls::finish`: refused, or rounds from the start.
use mathlib.Core.Path.{sym}
use Rattle.finish.proofs.Answering.{finish_done}
use Rattle.refusals.proofs.Starting.{start_ready}
use Rattle.finish.proofs.calls.finish.Goals as goal

pub settle-requires : goal.settle-requires
settle-requires c = start_ready _ _ _ _ c.in_ok-checked.ensures.bytes (sym c.in_ok-checked.ensures.verdict)

pub returns : goal.returns
returns c = finish_done c.in_ok-checked.checked _ c.in_ok-checked.ensures.bytes _ _ c.in_ok-checked.ensures.verdict _ _ _ c.settle.ensures
