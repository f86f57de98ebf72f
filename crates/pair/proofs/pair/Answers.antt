-- `pair::pair` meets its contract: its calls, one after another. Assumes nothing.
use Rattle.pair.proofs.Gathering.{ready}
use Rattle.pair.proofs.Sweeping.{pair_done}
use Rattle.pair.proofs.pair.Goals as goal

pub sweep-requires : goal.sweep-requires
sweep-requires c = rw c.gather.ensures.made.long (ready _ _ _ _ c.requires.items c.gather.ensures)

pub returns : goal.returns
returns c = pair_done _ _ _ _ c.gather.ensures c.sweep.ensures
