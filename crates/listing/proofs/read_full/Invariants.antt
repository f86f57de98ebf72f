-- `listing::read_full` ends: each turn puts at least one byte.
use Rattle.std.proofs.Common.{length, ◌-◌, ◌≤◌}
use Rattle.listing.proofs.read_full.Given as goal

abbrev pub invariant-loop-done : goal.invariant-loop-done
invariant-loop-done g l = l.done ≤ length l.job

abbrev pub decreases-loop-done : goal.decreases-loop-done
decreases-loop-done g l = length l.initial.job - l.done
