-- `search::first_over` meets its contract.
use Rattle.std.proofs.Common.{rules}
use borrow.Author.Tests.{tests}
use lib.Dec.{ltb}
use Rattle.laws.specs.Row.{at}
use Rattle.job.specs.Board.{board_of}
use Rattle.search.proofs.Below.{found_below}
use Rattle.search.proofs.first_over.Goals as goal

pub returns : goal.returns
returns c =
    found_below (λ v. ltb ((board_of c.args.job.now).width v) (at c.args.count v)) c.args.n _ _ c.find.result c.find.ensures.ran
    (λ k q h. search (rules, tests)) (λ k q h. search (rules, tests))
