-- `fit::spread::greatest_of` meets its contract.
use Rattle.std.specs.Prelude.{ℕ, ◌<◌, ◌≤◌, length}
use Rattle.std.proofs.Common.{arith, rules}
use Rattle.std.proofs.lemmas.Grind.{common_steps}
use Rattle.laws.specs.Sum.{greatest}
use Rattle.laws.specs.Row.{at}
use Rattle.laws.proofs.Greatest.{greatest_ge, greatest_le}
use Rattle.fit.proofs.spread.greatest_of.Goals as goal

pub returns : goal.returns
returns c = let xs = c.args.totals.now in
    let above : (k : ℕ) → k < length xs → at xs k ≤ greatest (at xs) (length xs) = λ k l. greatest_ge (at xs) k (length xs) l in
    let least = greatest_le (at xs) c.unwrap_or.result (length xs) (search rules) in
    grind (arith, common_steps, above, least)
