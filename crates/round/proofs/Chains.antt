-- Chains of rounds: each round lowers the excess, so a chain is no longer than the starting excess, and one as long ends legal.
-- Assumes nothing.
use mathlib.Core.Path.{◌≡◌, refl, sym, ◌∙◌}
use Prim.Native.Nat.{ℕ, ◌+◌, ◌*◌, ◌≤◌}
use native.Mathlib.Numerals.{add-one}
use native.Mathlib.Omega.{arith}
use Rattle.board.specs.Netlist.{Netlist}
use Rattle.board.specs.Board.{total_excess, InRange, Legal, Balanced, Alike, WithinLimits}
use Rattle.board.proofs.Excess.{total_excess_at_most}
use Rattle.board.proofs.Alike.{rule_alike}
use Rattle.search.proofs.Alike.{search_alike}
use Rattle.round.specs.Round.{RoundStep, Chain, ImprovesBy}
use Rattle.round.proofs.Condition3.{condition3}

-- one round more, as the code counts
pub chain_more : (J : Netlist) (a : ℕ → ℕ) {k : ℕ} {b d : ℕ → ℕ} → Chain J a k b → RoundStep J b d → Chain J a (k + 1) d
chain_more J a {k} {b} {d} c s = rw add-one (Chain.more c s)

module _ (J : Netlist) (a : ℕ → ℕ) (w : WithinLimits J) (h : InRange J a) where
  -- k rounds: no FPGA's excess rises, the total falls by k or more, the spread does not widen, nothing leaves the board
  pub chain_improves : {k : ℕ} {b : ℕ → ℕ} → Chain J a k b → ImprovesBy J a b k
  chain_improves Chain.none = record { excess_no_more = λ v l. omega arith; total_less = omega arith; spread_no_more = omega arith; in_range = h }
  chain_improves (Chain.more {k = k} {b = b} {d = d} c s) =
      let i = chain_improves c in
      let j = condition3 J b d s w i.in_range in
      record {
        excess_no_more = λ v l. omega (arith, i.excess_no_more v l, j.excess_no_more v l);
        total_less = omega (arith, i.total_less, j.total_less);
        spread_no_more = omega (arith, i.spread_no_more, j.spread_no_more);
        in_range = j.in_range;
      }

  module _ {k : ℕ} {b : ℕ → ℕ} (c : Chain J a k b) where
    -- at most as many rounds as the starting excess
    pub chain_short : k ≤ total_excess J a
    chain_short = omega (arith, (chain_improves c).total_less)

    -- and so at most two for each net
    pub chain_at_most : k ≤ 2 * J.n
    chain_at_most = omega (arith, chain_short, total_excess_at_most J a h)

    -- a balanced start gives a balanced result
    pub chain_balanced : Balanced J a → Balanced J b
    chain_balanced q = omega (arith, (chain_improves c).spread_no_more)

    -- after as many rounds as the starting excess the assignment is legal
    pub finish_ends : k ≡ total_excess J a → Legal J b
    finish_ends e = omega (arith, (chain_improves c).total_less)

-- from starts that agree on every net the same chains lead to results that agree on every net
module _ (J : Netlist) where
  pub round_alike : (a a' b b' : ℕ → ℕ) → Alike J a a' → Alike J b b' → RoundStep J a b → RoundStep J a' b'
  round_alike a a' b b' e d s =
      record { v = s.v; A = s.A; B = s.B; named = sym (search_alike J a a' e) ∙ s.named; rule = rule_alike J s.A s.B a a' b b' e d s.rule }

  pub chain_alike : (a a' : ℕ → ℕ) → Alike J a a' → {k : ℕ} {b : ℕ → ℕ} → Chain J a k b → (b' : ℕ → ℕ) × Chain J a' k b' × Alike J b b'
  chain_alike a a' e Chain.none = (a', Chain.none, e)
  chain_alike a a' e (Chain.more {b = b} {d = d} c s) =
      let i = chain_alike a a' e c in
      (d, Chain.more i.1 (round_alike b i.0 d d i.2 (λ _ _. refl) s), λ _ _. refl)
