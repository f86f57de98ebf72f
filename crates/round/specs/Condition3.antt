-- What one round comes to where nothing is refused: the start was legal and is as it was, or a round was made that improves it.
use Rattle.std.specs.Prelude.{◌≡◌, List, ℕ, None, Ok}
use Rattle.laws.specs.Row.{at}
use Rattle.board.specs.Netlist.{Netlist}
use Rattle.board.specs.Board.{Legal}
use Rattle.search.specs.Search.{over, Named}
use Rattle.round.specs.Answer.{Round}
use Rattle.round.specs.Round.{Improves}

pub data RoundMade (J : Netlist) (plan₀ plan : List ℕ) (r : Round) : Type 0 where
  settled : Legal J (at plan₀) → r ≡ Ok None → plan ≡ plan₀ → RoundMade J plan₀ plan r
  moved : (v A B : ℕ) → r ≡ Ok (over v A B) → Named J (at plan₀) v A B → Improves J (at plan₀) (at plan) A B → RoundMade J plan₀ plan r
