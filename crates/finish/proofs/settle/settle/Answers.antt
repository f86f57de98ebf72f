-- `finish::settle::settle`: the scratch is cleared after the rounds.
use Rattle.finish.proofs.Settling.{answered}
use Rattle.finish.proofs.settle.settle.Goals as goal

pub returns : goal.returns
returns c = answered _ _ _ c.requires _ _ _ _ _ c.rounds-made.ensures c.clear_scratch.ensures c.excess_of-excess.ensures
