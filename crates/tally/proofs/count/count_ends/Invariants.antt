-- `tally::count::count_ends` meets its contract.
use Rattle.std.proofs.Common.{Bool, ℕ}
use Rattle.laws.specs.Sum.{when}
use Rattle.laws.proofs.Count.{Walked}
use Rattle.job.specs.Board.{board_of}
use Rattle.board.specs.Board.{ends_at}
use Rattle.tally.specs.Picked.{PicksTrue}
use Rattle.tally.proofs.Walks.{Few}
use Rattle.tally.proofs.count.count_ends.Given as goal

abbrev pub invariant-loop-i : goal.invariant-loop-i
invariant-loop-i g l =
    Few l.counts 256 l.i
    × ((t : ℕ → Bool) → PicksTrue (goal.F-post g l.picks) t l.job.head.n → Walked (λ v j. when (t j) (ends_at (board_of l.job) v j)) 256 l.counts l.i)
