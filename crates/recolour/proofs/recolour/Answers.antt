-- `recolour::recolour`: its three steps, one after another.
use Rattle.recolour.proofs.Recolouring.{recoloured}
use Rattle.recolour.proofs.recolour.Goals as goal

pub returns : goal.returns
returns c = search recoloured
