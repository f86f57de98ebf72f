-- Condition 3: what a round does.
-- Assumes nothing.
use Prim.Native.Nat.{ℕ}
use Rattle.board.specs.Netlist.{Netlist}
use Rattle.board.specs.Board.{InRange, Legal, WithinLimits}
use Rattle.board.proofs.Change.{excess_no_more}
use Rattle.board.proofs.Rule.{rule_in_range, rule_excess_less, rule_spread_no_more}
use Rattle.search.specs.Search.{Named}
use Rattle.search.proofs.Answers.{over-lowest, over-not-legal, named-if}
use Rattle.round.specs.Round.{RoundStep, Improves}

module _ (J : Netlist) (a b : ℕ → ℕ) (s : RoundStep J a b) where
  -- no round is made on a legal assignment
  pub round_not_legal : Legal J a → ⊥
  round_not_legal = over-not-legal J a s.v s.A s.B s.named

  module _ (w : WithinLimits J) (h : InRange J a) where
    -- the FPGA and the two crossbars are the ones that document 01 asks for
    pub round_named : Named J a s.v s.A s.B
    round_named = named-if J a s.v s.A s.B h (w s.v (over-lowest J a s.v s.A s.B s.named).fpga) s.named

    -- nets move between two crossbars only, no FPGA's excess rises, the total excess falls and the spread does not widen
    pub condition3 : Improves J a b s.A s.B
    condition3 =
        let n = round_named in
        let la = n.over.crossbar in
        let lb = n.room.crossbar in
        record {
          moved = s.rule.moved;
          excess_no_more = λ v l. excess_no_more J a b s.A s.B s.rule.moved la lb n.apart v (s.rule.clauses v l);
          total_less = rule_excess_less J a b s.A s.B s.rule la lb s.v n.over.fpga n.over.above n.room.below;
          spread_no_more = rule_spread_no_more J a b s.A s.B s.rule la lb n.apart;
          in_range = rule_in_range J a b s.A s.B s.rule la lb h;
        }
