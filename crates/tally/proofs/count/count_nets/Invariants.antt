-- `tally::count::count_nets` meets its contract.
use Rattle.std.proofs.Common.{ℕ, eqb}
use Rattle.laws.specs.Sum.{when}
use Rattle.laws.specs.Row.{at}
use Rattle.laws.proofs.Count.{Walked}
use Rattle.tally.specs.Picked.{PicksOnes}
use Rattle.tally.proofs.Walks.{Few}
use Rattle.tally.proofs.count.count_nets.Given as goal

abbrev pub invariant-loop-i : goal.invariant-loop-i
invariant-loop-i g l =
    Few l.counts 128 l.i
    × ((f : ℕ → ℕ) → PicksOnes (goal.F-post g l.picks) f l.n → Walked (λ x j. when (eqb (at l.plan j) x) (f j)) 128 l.counts l.i)
