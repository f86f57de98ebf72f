-- A chain of rounds from the deal: it stays balanced, and where it ends legal it is a plan.
-- Assumes nothing.
use Prim.Native.Nat.{ℕ}
use native.Mathlib.Omega.{arith}
use Rattle.board.specs.Netlist.{Netlist}
use Rattle.board.specs.Board.{InRange, Legal, Balanced, Alike, deal, Sound, WithinLimits}
use Rattle.board.proofs.Deal.{deal_in_range, deal_balanced}
use Rattle.board.proofs.Alike.{spread_alike, in_range_alike}
use Rattle.round.specs.Round.{Chain, Planned}
use Rattle.round.proofs.Chains.{chain_improves, chain_balanced}

-- `a` is the deal on every net
module _ (J : Netlist) (s : Sound J) (a : ℕ → ℕ) (e : Alike J (deal J) a) where
  pub dealt_in_range : InRange J a
  dealt_in_range = in_range_alike J (deal J) a e (deal_in_range J s.some_crossbar)

  pub dealt_balanced : Balanced J a
  dealt_balanced = omega (arith, spread_alike J (deal J) a e, deal_balanced J s.some_crossbar)

  module _ (w : WithinLimits J) {k : ℕ} {b : ℕ → ℕ} (c : Chain J a k b) where
    -- within the limits any chain from the deal to a legal assignment ends in a plan: legal and balanced
    pub plan_possible : Legal J b → Planned J b
    plan_possible l =
        record {
          in_range = (chain_improves J a w dealt_in_range c).in_range;
          legal = l;
          balanced = chain_balanced J a w dealt_in_range c dealt_balanced;
        }
