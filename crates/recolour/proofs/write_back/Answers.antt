-- `recolour::write_back`: one more net each turn.
use Rattle.recolour.proofs.Writing.{write_none, write_more, write_skip}
use Rattle.recolour.proofs.write_back.Goals as goal
use Rattle.recolour.proofs.write_back.Goals.{then-holds, else-holds}

pub loop-net-init : goal.loop-net-init
loop-net-init c = search write_none

pub loop-net-preserved : goal.loop-net-preserved
loop-net-preserved c =
    elim c.if-holds.branch [
      | then-holds w ↦ rw (w.plan-is, w.e-is) (search write_more)
      | else-holds w ↦ rw (w.plan-is, w.e-is) (search write_skip)
    ]
