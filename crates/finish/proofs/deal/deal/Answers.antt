-- `finish::deal::deal`: one more net each turn.
use mathlib.Core.Path.{◌≡◌}
use native.Mathlib.Omega.{arith}
use Rattle.job.specs.Board.{board_of}
use Rattle.finish.proofs.Dealing.{dealt_none, dealt_more}
use Rattle.finish.proofs.deal.deal.Goals as goal

pub loop-net-init : goal.loop-net-init
loop-net-init c = dealt_none _ _

pub loop-net-preserved : goal.loop-net-preserved
loop-net-preserved c = dealt_more _ _ c.loop-net.net _ _ (omega arith) c.loop-net.invariant c.dealt_to.ensures.value

pub returns : goal.returns
returns c =
    let all : c.loop-net.net ≡ (board_of c.args.job.now).n = omega (arith, c.args.job.now.well_formed.n) in
    rw all at c.loop-net.invariant
