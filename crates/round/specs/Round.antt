-- One round by the rule, a chain of rounds, and what finish and plan come to.
use Rattle.std.specs.Prelude.{◌≡◌, ℕ, suc, ◌+◌, ◌≤◌, ◌<◌}
use Rattle.board.specs.Netlist.{Netlist}
use Rattle.board.specs.Board.{excess, total_excess, spread, InRange, Legal, Balanced}
use Rattle.board.specs.Rule.{Moved, Recoloured}
use Rattle.search.specs.Search.{over, search_of}

-- one round from `a` to `b`, on the FPGA and the two crossbars that the search names; so `a` is not legal
pub record RoundStep (J : Netlist) (a b : ℕ → ℕ) : Type 0 where
  pub v : ℕ
  pub A : ℕ
  pub B : ℕ
  pub named : search_of J a ≡ over v A B
  pub rule : Recoloured J a b A B

-- a chain of exactly k rounds from `a`, none of them made on a legal assignment
pub data Chain (J : Netlist) (a : ℕ → ℕ) : ℕ → (ℕ → ℕ) → Type 0 where
  none : Chain J a 0 a
  more : {k : ℕ} {b d : ℕ → ℕ} → Chain J a k b → RoundStep J b d → Chain J a (suc k) d

-- finish from `a` comes to `b`, after k rounds and with the starting excess s
pub record Finished (J : Netlist) (a b : ℕ → ℕ) (k s : ℕ) : Type 0 where
  pub chain : Chain J a k b
  pub legal : Legal J b
  pub excess : s ≡ total_excess J a

-- what a round on crossbars A and B does
pub record Improves (J : Netlist) (a b : ℕ → ℕ) (A B : ℕ) : Type 0 where
  -- nets move between two crossbars only
  pub moved : Moved J a b A B
  -- no FPGA's excess rises, and the total falls
  pub excess_no_more : (v : ℕ) → v < J.f → excess J b v ≤ excess J a v
  pub total_less : total_excess J b < total_excess J a
  pub spread_no_more : spread J b ≤ spread J a
  pub in_range : InRange J b

-- what k rounds do
pub record ImprovesBy (J : Netlist) (a b : ℕ → ℕ) (k : ℕ) : Type 0 where
  pub excess_no_more : (v : ℕ) → v < J.f → excess J b v ≤ excess J a v
  pub total_less : total_excess J b + k ≤ total_excess J a
  pub spread_no_more : spread J b ≤ spread J a
  pub in_range : InRange J b

-- what a plan is
pub record Planned (J : Netlist) (b : ℕ → ℕ) : Type 0 where
  pub in_range : InRange J b
  pub legal : Legal J b
  pub balanced : Balanced J b
