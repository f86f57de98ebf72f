-- `split::orient` meets its contract: its four calls, one after another. Assumes nothing.
use Rattle.split.proofs.Orienting.{ends_matched, oriented}
use Rattle.split.proofs.orient.Goals as goal

pub alternate-requires : goal.alternate-requires
alternate-requires c = ends_matched _ _ _ _ c.requires.ends_long c.flip.ensures c.pair.ensures _ c.requires.labels_long

pub returns : goal.returns
returns c = oriented _ _ _ _ c.requires.ends_long c.flip.ensures c.pair.ensures _ c.alternate.ensures _ c.direct.ensures
