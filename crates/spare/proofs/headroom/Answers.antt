-- `spare::headroom` meets its contract.
use Rattle.std.specs.Prelude.{min, ◌≡◌}
use native.Mathlib.Omega.{arith}
use Rattle.spare.specs.Spare.{headroom_of}
use borrow.Author.Rules.{rules}
use Rattle.words.specs.Verdict.{◌then◌}
use Rattle.refusals.specs.Asked.{headroom_verdict}
use Rattle.refusals.proofs.Asking.{both_known}
use Rattle.spare.proofs.Rooms.{job_within}
use mathlib.Core.Path.{sym, ◌∙◌}
use Rattle.spare.proofs.headroom.Goals as goal

pub left_of-first-requires-clause-within : goal.left_of-first-requires-clause-within
left_of-first-requires-clause-within c = let e = c.in_ok-fitting.ensures in job_within c.in_ok-fitting.fitting _ e.bytes (sym e.verdict)

pub left_of-first-requires-clause-known : goal.left_of-first-requires-clause-known
left_of-first-requires-clause-known c = (both_known _ _ _ (sym c.check_both.ensures ∙ c.in_ok-check_both.was)).0

pub left_of-second-requires-clause-within : goal.left_of-second-requires-clause-within
left_of-second-requires-clause-within c = let e = c.in_ok-fitting.ensures in job_within c.in_ok-fitting.fitting _ e.bytes (sym e.verdict)

pub left_of-second-requires-clause-known : goal.left_of-second-requires-clause-known
left_of-second-requires-clause-known c = (both_known _ _ _ (sym c.check_both.ensures ∙ c.in_ok-check_both.was)).1

pub returns : goal.returns
unfolding headroom_verdict headroom_of ◌then◌
returns c = let least : c.min.result.0 ≡ min c.left_of-first.result.0 c.left_of-second.result.0 = rw c.min.ensures (grind arith) in search rules
