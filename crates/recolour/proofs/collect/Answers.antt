-- `recolour::collect`: one more net each turn.
use Rattle.recolour.proofs.Collecting.{collect_none, collect_more, collect_skip, collect_all, in_room}
use Rattle.recolour.proofs.collect.Goals as goal
use Rattle.recolour.proofs.collect.Goals.{then-holds, else-holds}

pub loop-net-init : goal.loop-net-init
loop-net-init c = search collect_none

pub put_ends-requires : goal.put_ends-requires
put_ends-requires c = search in_room

pub loop-net-preserved : goal.loop-net-preserved
loop-net-preserved c =
    elim c.if-holds.branch [
      | then-holds w ↦ rw (w.s-is, w.e-is) (search collect_more)
      | else-holds w ↦ rw (w.s-is, w.e-is) (search collect_skip)
    ]

pub returns : goal.returns
returns c = search collect_all
