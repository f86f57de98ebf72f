-- What is fixed. A round's FPGA and its two crossbars are, since the search is a function; so are the totals after it, and finish's
-- starting excess; and a legal start is left as it is. Not fixed is which of the nets on the two crossbars go where (the split); with it
-- finish's and plan's assignment and how many rounds they make. First for the rule, then for one round as a call.
-- Assumes nothing.
use mathlib.Core.Path.{◌≡◌, refl, sym, subst, subst₂, ◌∙◌}
use mathlib.Core.Logic.{◌↔◌}
use mathlib.Core.List.{List}
use Prim.Native.Nat.{ℕ}
use native.Mathlib.Omega.{arith}
use Rattle.std.specs.Prelude.{None, Some, Ok, Err}
use Rattle.laws.specs.Row.{at}
use Rattle.job.specs.Job.{job_in}
use Rattle.board.specs.Netlist.{Netlist}
use Rattle.board.specs.Board.{total, InRange, Legal, WithinLimits}
use Rattle.board.specs.Rule.{Recoloured}
use Rattle.board.proofs.Rule.{rule_totals_once}
use Rattle.search.specs.Search.{over, search_of}
use Rattle.search.proofs.Answers.{over-parts}
use Rattle.round.specs.Round.{RoundStep, Chain, Finished}
use Rattle.refusals.proofs.Starting.{ready}
use Rattle.round.specs.Answer.{Round}
use Rattle.round.specs.OneRound.{Untouched, Accepted, OneRound}
use Rattle.round.specs.Twice.{SameBeyond, RoundTwice, SameRound}
use Rattle.round.proofs.Condition3.{round_not_legal, round_named}
use Rattle.round.proofs.Promises.{moved_says, moved_round}

-- two rounds on one assignment name the same FPGA and crossbars
pub round_names_once : (J : Netlist) (a b b' : ℕ → ℕ) (s : RoundStep J a b) (t : RoundStep J a b') → (s.v ≡ t.v) × (s.A ≡ t.A) × (s.B ≡ t.B)
round_names_once J a b b' s t = over-parts s.v s.A s.B t.v t.A t.B (sym s.named ∙ t.named)

-- so a round is by the rule on the crossbars that the search names
pub round_rule : (J : Netlist) (a b : ℕ → ℕ) (v A B : ℕ) → search_of J a ≡ over v A B → RoundStep J a b → Recoloured J a b A B
round_rule J a b v A B e s =
    let p = over-parts s.v s.A s.B v A B (sym s.named ∙ e) in
    subst₂ (Recoloured J a b) p.1 p.2 s.rule

-- and two rounds leave the same totals
module _ (J : Netlist) (a b b' : ℕ → ℕ) (w : WithinLimits J) (h : InRange J a) (s : RoundStep J a b) (t : RoundStep J a b') where
  pub round_totals_once : (x : ℕ) → total J b x ≡ total J b' x
  round_totals_once x =
      rule_totals_once J a a b b' s.A s.B s.rule (round_rule J a b' s.v s.A s.B s.named t) (round_named J a b s w h).apart refl refl x refl

module _ (J : Netlist) (a : ℕ → ℕ) where
  -- from a legal assignment there is the chain of no rounds only
  pub chain_from_legal : Legal J a → {k : ℕ} {b : ℕ → ℕ} → Chain J a k b → (k ≡ 0) × (b ≡ a)
  chain_from_legal z Chain.none = (refl, refl)
  chain_from_legal z (Chain.more {b = b} {d = d} c s) =
      let i = chain_from_legal z c in
      absurd (round_not_legal J b d s (subst (Legal J) (sym i.1) z))

  pub chain_of_none : {k : ℕ} {b : ℕ → ℕ} → Chain J a k b → k ≡ 0 → b ≡ a
  chain_of_none Chain.none e = refl
  chain_of_none (Chain.more c s) e = absurd (omega arith)

  module _ {b : ℕ → ℕ} {k s : ℕ} (r : Finished J a b k s) where
    -- no round is made exactly on a legal start, and then the start is the result
    pub finished_at_once : (k ≡ 0) ↔ Legal J a
    finished_at_once = (λ e. subst (Legal J) (chain_of_none r.chain e) r.legal, λ z. (chain_from_legal z r.chain).0)

    -- the excess that is answered is unique
    pub finished_excess_once : {b' : ℕ → ℕ} {k' s' : ℕ} → Finished J a b' k' s' → s ≡ s'
    finished_excess_once r' = r.excess ∙ sym r'.excess

-- ---- the call: two runs on the same input

module _ (job plan₀ plan plan' s₀ s s' : List ℕ) where
  pub accepted_twice : Accepted job plan₀ plan s₀ s → Accepted job plan₀ plan' s₀ s' → SameBeyond job plan plan' s s'
  accepted_twice one other =
      record {
        long = one.long ∙ sym other.long;
        beyond = one.beyond ∙ sym other.beyond;
        scratch = one.scratch_zero ∙ sym other.scratch_zero;
      }

  pub untouched_twice : Untouched plan₀ plan s₀ s → Untouched plan₀ plan' s₀ s' → (plan ≡ plan') × (s ≡ s')
  untouched_twice one other = (one.plan_same ∙ sym other.plan_same, one.scratch_same ∙ sym other.scratch_same)

  twice : (r : Round) → OneRound job plan₀ plan s₀ s r → OneRound job plan₀ plan' s₀ s' r → RoundTwice r job plan₀ plan plan' s s'
  twice (Ok None) one other = (one.memory.0 ∙ sym other.memory.0, one.memory.1.scratch_zero ∙ sym other.memory.1.scratch_zero)
  twice (Ok (Some o)) one other =
      let start = ready job plan₀ s₀ (moved_says job plan₀ plan s₀ s o one).0 in
      record {
        same = accepted_twice one.memory.1 other.memory.1;
        elsewhere = λ i l a b. one.memory.0.moved.stay i l a b ∙ sym (other.memory.0.moved.stay i l a b);
        totals = round_totals_once (job_in job) (at plan₀) (at plan) (at plan') start.fitting.within start.in_range
            (moved_round job plan₀ plan s₀ s o one) (moved_round job plan₀ plan' s₀ s' o other);
      }
  twice (Err r) one other = untouched_twice one.memory other.memory

  -- the answer is the same, and so is lent memory but for the nets that the round has moved
  pub round_once : (r r' : Round) → OneRound job plan₀ plan s₀ s r → OneRound job plan₀ plan' s₀ s' r' → SameRound job plan₀ plan plan' s s' r r'
  round_once r r' one other =
      let e = one.answer ∙ sym other.answer in
      record { answer = e; memory = twice r one (subst (OneRound job plan₀ plan' s₀ s') (sym e) other) }
