-- What finish comes to where nothing is refused: at most as many rounds as the excess, no worse anywhere, and legal in the end.
use Rattle.std.specs.Prelude.{◌≡◌, List, ℕ, ◌≤◌, Ok}
use Rattle.laws.specs.Row.{at}
use Rattle.board.specs.Netlist.{Netlist}
use Rattle.board.specs.Board.{total_excess, Legal}
use Rattle.round.specs.Round.{ImprovesBy}
use Rattle.finish.specs.Answer.{Finish}

pub record FinishMade (J : Netlist) (plan₀ plan : List ℕ) (r : Finish) : Type 0 where
  pub k : ℕ
  pub answer : r ≡ Ok (record { made = k; excess = total_excess J (at plan₀) })
  pub few : k ≤ total_excess J (at plan₀)
  pub improves : ImprovesBy J (at plan₀) (at plan) k
  pub legal : Legal J (at plan)
