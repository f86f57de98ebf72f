-- What the rows of several rounds say: a finish of so many rounds; and, where each net ends at every FPGA, of every chain.
-- Assumes nothing.
use mathlib.Core.Path.{◌≡◌, refl, sym, subst, ◌∙◌}
use mathlib.Core.List.{List, [], ◌∷◌}
use mathlib.Core.Logic.{◌⊎◌, inl, inr, ⊎_elim}
use Prim.Native.Nat.{ℕ, zero, suc, ◌+◌, ◌<◌}
use native.Mathlib.Omega.{arith}
use lib.ListN.{length}
use Rattle.std.specs.List.{AllByRecursion}
use Rattle.laws.specs.Row.{at, row}
use Rattle.laws.proofs.Row.{row_same}
use Rattle.board.specs.Netlist.{Netlist}
use Rattle.job.specs.Job.{job_in}
use Rattle.board.specs.Board.{load, total, total_excess, InRange, Legal, WithinLimits}
use Rattle.board.proofs.Alike.{excess_by_loads}
use Rattle.board.proofs.Rule.{rule_totals_once}
use Rattle.search.proofs.Alike.{search_by_loads}
use Rattle.round.specs.Round.{RoundStep, Chain, Finished}
use Rattle.round.proofs.Condition3.{round_not_legal, round_named, condition3}
use Rattle.round.proofs.Unique.{round_rule}
use Rattle.cases.specs.Table.{Stop}
use Rattle.cases.specs.Table.Row.{rounds}
use Rattle.cases.specs.Holds.{Linked, After, totals_of, excess_of, Holds}
use Rattle.cases.proofs.Rounds.{allowed_round, within, in_range}

-- ---- linked stops are a chain of as many rounds as there are stops behind the first

module _ (J : Netlist) (a : ℕ → ℕ) where
  pub linked_chain : (k : ℕ) (s : Stop) (stops : List Stop) → Chain J a k (at s.plan) → Linked J (s ∷ stops)
      → (b : List ℕ) × Chain J a (length stops + k) (at b) × Legal J (at b)
  linked_chain k s [] c h = (s.plan, subst (λ (j : ℕ). Chain J a j (at s.plan)) (omega arith) c, h)
  linked_chain k s (t ∷ stops) c h =
      let r = linked_chain (suc k) t stops (Chain.more c (allowed_round J (at s.plan) (at t.plan) h.0)) h.1 in
      (r.0, subst (λ (j : ℕ). Chain J a j (at r.0)) (omega arith) r.1, r.2)

pub rounds_say : (job : List ℕ) (s : Stop) (stops : List Stop) → Holds (rounds job (s ∷ stops))
    → (b : List ℕ) × Finished (job_in job) (at s.plan) (at b) (length stops) s.excess
rounds_say job s stops h =
    let r = linked_chain (job_in job) (at s.plan) 0 s stops Chain.none h.2 in
    (r.0, record { chain = subst (λ (j : ℕ). Chain (job_in job) (at s.plan) j (at r.0)) (omega arith) r.1; legal = r.2; excess = sym h.1.0.0 })

-- ---- from stop to stop

each_after : (P : Stop → Type 0) (stops : List Stop) → AllByRecursion P stops → (k : ℕ) (t : Stop) → After stops k t → P t
each_after P [] e k t m = absurd m
each_after P (s ∷ stops) e zero t q = subst P q e.0
each_after P (s ∷ stops) e (suc k) t m = each_after P stops e.1 k t m

-- a stop is the last, and legal, or a round leads to the next
follow : (J : Netlist) (stops : List Stop) → Linked J stops → (k : ℕ) (t : Stop) → After stops k t
    → Legal J (at t.plan) ⊎ ((u : Stop) × After stops (suc k) u × RoundStep J (at t.plan) (at u.plan))
follow J [] h k t m = absurd h
follow J (s ∷ []) h zero t q = inl (subst (λ (x : Stop). Legal J (at x.plan)) q h)
follow J (s ∷ []) h (suc k) t m = absurd m
follow J (s ∷ u ∷ stops) h zero t q =
    inr (u, refl, subst (λ (x : Stop). RoundStep J (at x.plan) (at u.plan)) q (allowed_round J (at s.plan) (at u.plan) h.0))
follow J (s ∷ u ∷ stops) h (suc k) t m = follow J (u ∷ stops) h.1 k t m

-- ---- where each net ends at every FPGA the totals are the loads, and every chain has the same totals

module _ (J : Netlist) (w : WithinLimits J) (both : (a : ℕ → ℕ) (v x : ℕ) → v < J.f → load J a v x ≡ total J a x) where
  abbrev Same : (ℕ → ℕ) → (ℕ → ℕ) → Type 0
  Same a b = (x : ℕ) → x < J.c → total J a x ≡ total J b x

  same_loads : (a b : ℕ → ℕ) → Same a b → (v x : ℕ) → v < J.f → x < J.c → load J a v x ≡ load J b v x
  same_loads a b e v x lv lx = both a v x lv ∙ e x lx ∙ sym (both b v x lv)

  same_excess : (a b : ℕ → ℕ) → Same a b → total_excess J a ≡ total_excess J b
  same_excess a b e = excess_by_loads J a b (same_loads a b e)

  same_step : (a a' b b' : ℕ → ℕ) → Same a a' → InRange J a' → RoundStep J a b → RoundStep J a' b' → Same b b'
  same_step a a' b b' e h s s' x l =
      let n = round_named J a' b' s' w h in
      let r = round_rule J a b s'.v s'.A s'.B (search_by_loads J a a' (same_loads a a' e) ∙ s'.named) s in
      rule_totals_once J a a' b b' s'.A s'.B r s'.rule n.apart (e s'.A n.over.crossbar) (e s'.B n.room.crossbar) x (e x l)

  module _ (s : Stop) (stops : List Stop) (h : Linked J (s ∷ stops)) (start : InRange J (at s.plan)) where
    along : {k : ℕ} {b : ℕ → ℕ} → Chain J (at s.plan) k b → (t : Stop) × After (s ∷ stops) k t × Same b (at t.plan) × InRange J (at t.plan)
    along Chain.none = (s, refl, λ x l. refl, start)
    along (Chain.more {k = k} {b = b} {d = d} c r) =
        let i = along c in
        let p = at i.0.plan in
        ⊎_elim (λ z. absurd (round_not_legal J b d r (same_excess b p i.2 ∙ z)))
        (λ u. let q = at u.0.plan in (u.0, u.1, same_step b p d q i.2 i.3 r u.2, (condition3 J p q u.2 w i.3).in_range))
        (follow J (s ∷ stops) h k i.0 i.1)

-- after k rounds the totals and the excess are those of the stop after k rounds; so there are no more rounds than stops
pub rounds_always : (job : List ℕ) (s : Stop) (stops : List Stop) → Holds (rounds job (s ∷ stops))
    → ((a : ℕ → ℕ) (v x : ℕ) → v < (job_in job).f → load (job_in job) a v x ≡ total (job_in job) a x)
    → {k : ℕ} {b : ℕ → ℕ} → Chain (job_in job) (at s.plan) k b
    → (t : Stop) × After (s ∷ stops) k t × (row (total (job_in job) b) (job_in job).c ≡ t.totals) × (total_excess (job_in job) b ≡ t.excess)
rounds_always job s stops h both {k} {b} c =
    let J = job_in job in
    let i = along J (within job s.plan h.0) both s stops h.2 (in_range job s.plan h.0) c in
    let p = at i.0.plan in
    let e = each_after (λ t. (excess_of J t.plan ≡ t.excess) × (totals_of J t.plan ≡ t.totals)) (s ∷ stops) h.1 k i.0 i.1 in (
      i.0,
      i.1,
      row_same (total J b) (total J p) J.c i.2 ∙ e.1,
      same_excess J (within job s.plan h.0) both b p i.2 ∙ e.0,
    )
