-- `form::place::place_behind` meets its contract.
use mathlib.Core.Path.{sym}
use native.Mathlib.Omega.{arith}
use Rattle.form.proofs.Places.{past_newline, past_other, reached_all}
use Rattle.form.proofs.place.place_behind.Goals as goal
use Rattle.form.proofs.place.place_behind.Goals.{then-b-eq10, else-b-eq10}

pub loop-b-preserved : goal.loop-b-preserved
loop-b-preserved c = let l = c.loop-b in
    elim c.if-b-eq10.branch [
      | then-b-eq10 w ↦ rw (w.line-is, w.byte-is) (past_newline _ _ _ l.b-index (omega arith) l.invariant w.if-b-eq10.true)
      | else-b-eq10 w ↦ rw (w.line-is, w.byte-is) (past_other _ _ _ l.b-index (omega arith) l.invariant w.if-b-eq10.false)
    ]

pub returns : goal.returns
returns c = sym (reached_all _ _ _ _ (omega arith) c.loop-b.invariant)
