-- `round::one_round`: refused, settled or moved.
use mathlib.Core.Path.{sym}
use native.Mathlib.Omega.{arith}
use Rattle.refusals.proofs.Starting.{start_ready}
use Rattle.std.proofs.Common.{rules}
use Rattle.round.proofs.Calling.{one_refused, one_made}
use Rattle.round.proofs.one_round.Goals as goal

pub step-made-requires : goal.step-made-requires
step-made-requires c = start_ready _ _ _ _ c.in_ok-checked.ensures.bytes (sym c.in_ok-checked.ensures.verdict)

pub clear_scratch-requires : goal.clear_scratch-requires
clear_scratch-requires c =
    omega (arith, (start_ready c.in_ok-checked.checked _ c.args.s.now _ c.in_ok-checked.ensures.bytes (sym c.in_ok-checked.ensures.verdict)).fitting.scratch_is_long)

pub returns-in_err-checked : goal.returns-in_err-checked
returns-in_err-checked c =
    let refused = one_refused c.args.job.now c.args.plan.now c.args.s.now _ c.in_err-checked.ensures.verdict in
    search rules

pub returns : goal.returns
returns c = one_made _ _ c.in_ok-checked.ensures.bytes _ _ (sym c.in_ok-checked.ensures.verdict) _ _ _ c.clear_scratch.ensures _ c.step-made.ensures
