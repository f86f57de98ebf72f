-- `finish::deal::deal`: the nets so far are dealt.
use mathlib.Core.Path.{◌≡◌}
use Rattle.job.specs.Board.{board_of}
use Rattle.finish.specs.Plan.{dealt_up_to}
use Rattle.finish.proofs.deal.deal.Given as goal

abbrev pub invariant-loop-net : goal.invariant-loop-net
invariant-loop-net l = l.plan ≡ dealt_up_to (board_of l.job) l.net l.initial.plan
