-- `walk::visit` meets its contract: the state is `Wending`, and the measure how many labels are still to come. Assumes nothing.
use Rattle.walk.proofs.Labelling.{wend_first, wend_again, fewer, wend_round}
use Rattle.walk.proofs.visit.Goals as goal

pub loop-labels-init : goal.loop-labels-init
loop-labels-init c = wend_first _ _ _ _ c.requires.passing c.requires.known

pub loop-labels-smaller : goal.loop-labels-smaller
loop-labels-smaller c = fewer _ _ _ _ _ _ c.loop-labels.invariant c.loop-labels-test.true

pub loop-labels-preserved : goal.loop-labels-preserved
loop-labels-preserved c = wend_again _ _ _ _ _ _ c.loop-labels.invariant c.loop-labels-test.true

pub returns : goal.returns
returns c = wend_round _ _ _ _ _ _ c.loop-labels.invariant c.loop-labels-test.false
