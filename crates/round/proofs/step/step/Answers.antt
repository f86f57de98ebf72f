-- `round::step::step`: what the search names can be recoloured.
use Rattle.round.proofs.Stepping.{step_asked}
use Rattle.round.proofs.step.step.Goals as goal

pub recolour-requires : goal.recolour-requires
recolour-requires c = step_asked _ _ _ c.requires _ c.in_ok-over.ensures
