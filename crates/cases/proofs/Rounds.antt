-- What the rows of rounds say: `possible` has every result of a round and no other.
-- Assumes nothing.
use mathlib.Core.Path.{◌≡◌, refl, sym, subst, ◌∙◌}
use mathlib.Core.Bool.{true, false≢true}
use mathlib.Core.List.{List}
use mathlib.Core.Logic.{◌↔◌, ◌⊎◌, inl, inr, ⊎_elim}
use Prim.Native.Nat.{ℕ}
use lib.ListN.{length}
use Rattle.std.specs.List.{AllByRecursion, Contains}
use Rattle.laws.specs.Row.{at, row}
use Rattle.laws.proofs.Row.{row_at, row_same}
use Rattle.board.specs.Netlist.{Netlist}
use Rattle.job.specs.Job.{job_in}
use Rattle.board.specs.Board.{load, total, InRange, Alike, Legal, WithinLimits}
use Rattle.board.proofs.Alike.{rule_alike, load_alike, total_alike, excess_alike, alike_back}
use Rattle.board.proofs.Rule.{rule_says}
use Rattle.scratch.specs.Scratch.{scratch_long}
use Rattle.search.specs.declared.Over.{Over}
use Rattle.search.specs.Search.{search_of}
use Rattle.round.specs.Round.{RoundStep, Chain, Finished}
use Rattle.std.specs.Prelude.{Option, None, Some}
use Rattle.words.specs.declared.Reason.TheVariants as reason
use Rattle.words.proofs.Order.{then_first, then_second}
use Rattle.refusals.specs.Start.{round_verdict}
use Rattle.refusals.proofs.Faults.{range_says}
use Rattle.refusals.proofs.Starting.{fitting}
use Rattle.round.proofs.Condition3.{round_not_legal, condition3}
use Rattle.cases.specs.Ways.{ways}
use Rattle.cases.specs.Rounds.{allowed_by, allowed, possible}
use Rattle.cases.specs.Table.Row.{one_round, results, always}
use Rattle.cases.specs.Holds.{NotRefused, loads_of, totals_of, excess_of, Holds}
use Rattle.cases.proofs.Ways.{each_member, some_member, kept_passes, passes_kept, way_among}

-- ---- a round is what the test allows

module _ (J : Netlist) (a : ℕ → ℕ) where
  round_by : (b : ℕ → ℕ) (f : Option Over) → search_of J a ≡ f → allowed_by f J a b ≡ true → RoundStep J a b
  round_by b None e t = absurd (false≢true t)
  round_by b (Some o) e t = record { v = o.fpga.0; A = o.crowded.0; B = o.room.0; named = e; rule = (rule_says J a b o.crowded.0 o.room.0).0 t }

  pub allowed_round : (b : ℕ → ℕ) → allowed J a b ≡ true → RoundStep J a b
  allowed_round b = round_by b (search_of J a) refl

  pub round_allowed : (b : ℕ → ℕ) → RoundStep J a b → allowed J a b ≡ true
  round_allowed b s = subst (λ (f : Option Over). allowed_by f J a b ≡ true) (sym s.named) ((rule_says J a b s.A s.B).1 s.rule)

  -- by its nets alone
  pub round_alike : (b d : ℕ → ℕ) → Alike J b d → RoundStep J a b → RoundStep J a d
  round_alike b d e s = record { v = s.v; A = s.A; B = s.B; named = s.named; rule = rule_alike J s.A s.B a a b d (λ i l. refl) e s.rule }

-- an assignment as a list
as_list : (J : Netlist) (b : ℕ → ℕ) → Alike J b (at (row b J.n))
as_list J b i l = sym (row_at b J.n i l)

-- ---- the rows about one round

module _ (job start : List ℕ) (ok : NotRefused job start) where
  abbrev J : Netlist
  J = job_in job

  abbrev a : ℕ → ℕ
  a = at start

  pub within : WithinLimits J
  unfolding round_verdict
  within = (fitting job (length start) scratch_long (then_first _ _ ok)).within

  pub in_range : InRange J a
  unfolding round_verdict
  in_range = (range_says J a reason.Start).0 (then_second _ _ ok)

  pub possible_round : (b : List ℕ) → Contains (possible J a) b → RoundStep J a (at b)
  possible_round b m = allowed_round J a (at b) (kept_passes (λ d. allowed J a (at d)) b (ways J.c J.n) m)

  pub round_possible : (b : ℕ → ℕ) → RoundStep J a b → Contains (possible J a) (row b J.n)
  round_possible b s =
      passes_kept (λ d. allowed J a (at d)) (row b J.n) (ways J.c J.n) (way_among J.c b J.n (condition3 J a b s within in_range).in_range)
      (round_allowed J a (at (row b J.n)) (round_alike J a b (at (row b J.n)) (as_list J b) s))

  -- what holds of each possible result, as a list, holds of every round's
  of_each : (P : List ℕ → Type 0) → AllByRecursion P (possible J a) → (b : ℕ → ℕ) → RoundStep J a b → P (row b J.n)
  of_each P e b s = each_member P (possible J a) e (row b J.n) (round_possible b s)

  -- the results of a round are the possible ones
  pub possible_says : (b : ℕ → ℕ) → RoundStep J a b ↔ Contains (possible J a) (row b J.n)
  possible_says b = (
    round_possible b,
    λ m. round_alike J a (at (row b J.n)) b (alike_back J b (at (row b J.n)) (as_list J b)) (possible_round (row b J.n) m),
  )

-- ---- what the rows say of every round

module _ (job start : List ℕ) where
  -- a round's results are exactly the listed ones
  pub results_say : (plans : List (List ℕ)) → Holds (results job start plans)
      → (b : ℕ → ℕ) → RoundStep (job_in job) (at start) b ↔ Contains plans (row b (job_in job).n)
  results_say plans h b =
      subst (λ (l : List (List ℕ)). RoundStep (job_in job) (at start) b ↔ Contains l (row b (job_in job).n)) h.1 (possible_says job start h.0 b)

  -- every round has these loads and totals
  pub always_says : (v : ℕ) (loads totals : List ℕ) → Holds (always job start v loads totals) → (b : ℕ → ℕ) → RoundStep (job_in job) (at start) b
      → (row (load (job_in job) b v) (job_in job).c ≡ loads) × (row (total (job_in job) b) (job_in job).c ≡ totals)
  always_says v loads totals h b s =
      let J = job_in job in
      let e = as_list J b in
      let p = of_each job start h.0 (λ d. (loads_of J d v ≡ loads) × (totals_of J d ≡ totals)) h.1 b s in (
        row_same (load J b v) (load J (at (row b J.n)) v) J.c (λ x l. load_alike J b (at (row b J.n)) e v x) ∙ p.0,
        row_same (total J b) (total J (at (row b J.n))) J.c (λ x l. total_alike J b (at (row b J.n)) e x) ∙ p.1,
      )

  module _ (h : Holds (one_round job start)) where
    some_round : (b : List ℕ) × RoundStep (job_in job) (at start) (at b)
    some_round = let m = some_member (possible (job_in job) (at start)) h.1 in (m.0, possible_round job start h.0 m.0 m.1)

    pub round_legal : (b : ℕ → ℕ) → RoundStep (job_in job) (at start) b → Legal (job_in job) b
    round_legal b s =
        excess_alike (job_in job) b (at (row b (job_in job).n)) (as_list (job_in job) b) ∙ of_each job start h.0 (λ d. Legal (job_in job) (at d)) h.2 b s

    once : {k : ℕ} {b : ℕ → ℕ} → Chain (job_in job) (at start) k b → ((k ≡ 0) × (b ≡ at start)) ⊎ ((k ≡ 1) × Legal (job_in job) b)
    once Chain.none = inl (refl, refl)
    once (Chain.more {b = b} {d = d} c s) =
        ⊎_elim (λ p. let e = p.0 in inr (rw e, round_legal d (subst (λ (f : ℕ → ℕ). RoundStep (job_in job) f d) p.1 s)))
        (λ p. absurd (round_not_legal (job_in job) b d s p.1)) (once c)

    -- there is a finish, and every finish makes one round
    pub one_finish : (b : List ℕ) × Finished (job_in job) (at start) (at b) 1 (excess_of (job_in job) start)
    one_finish =
        let r = some_round in
        (r.0, record { chain = Chain.more Chain.none r.1; legal = round_legal (at r.0) r.1; excess = refl })

    pub only_one_round : {b : ℕ → ℕ} {k s : ℕ} → Finished (job_in job) (at start) b k s → k ≡ 1
    only_one_round {b} r =
        let first = some_round in
        let over = round_not_legal (job_in job) (at start) (at first.0) first.1 in
        ⊎_elim (λ p. absurd (over (subst (Legal (job_in job)) p.1 r.legal))) (λ p. p.0) (once r.chain)
