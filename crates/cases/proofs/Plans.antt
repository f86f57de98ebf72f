-- What the rows about plan say, of all lent memory that is long enough and of every assignment.
-- Assumes nothing.
use mathlib.Core.Path.{◌≡◌, ap, sym, subst, ◌∙◌}
use mathlib.Core.List.{List, []}
use Prim.Native.Nat.{ℕ, ◌≤◌}
use native.Mathlib.Omega.{arith}
use lib.Dec.{eqb}
use lib.ListN.{length}
use borrow.Author.Tests.{eq-eqb, eqb-true}
use Rattle.std.specs.List.{Contains}
use Rattle.laws.specs.Row.{at, row}
use Rattle.laws.proofs.Row.{row_at}
use Rattle.std.specs.Prelude.{Ok}
use Rattle.words.proofs.Order.{then_first}
use Rattle.job.specs.Job.{n_in, job_in}
use Rattle.job.specs.Check.{job_verdict}
use Rattle.board.specs.Netlist.{Netlist}
use Rattle.board.specs.Board.{InRange, Legal, Alike}
use Rattle.board.proofs.Alike.{excess_alike}
use Rattle.scratch.specs.Scratch.{scratch_long}
use Rattle.sheet.specs.Sheet.{sheet_of}
use Rattle.sheet.proofs.Saying.{same_sheet}
use Rattle.refusals.specs.Start.{plan_verdict}
use Rattle.refusals.proofs.Starting.{room_enough, fitting}
use Rattle.round.proofs.Unique.{chain_from_legal}
use Rattle.finish.specs.Answer.{Finish}
use Rattle.finish.specs.Plan.{dealt, PlannedIn, PlanCall}
use Rattle.finish.proofs.Dealing.{dealt_alike}
use Rattle.finish.proofs.Promises.{plan_within, done_planned}
use Rattle.cases.specs.Ways.{ways}
use Rattle.cases.specs.Table.{deal_of}
use Rattle.cases.specs.Table.Row.{sheet, legal}
use Rattle.cases.specs.Holds.{verdict_on, excess_of, Holds}
use Rattle.cases.proofs.Ways.{kept_passes, passes_kept, way_among}

-- so many rounds, from this excess
abbrev done : ℕ → ℕ → Finish
done k e = Ok (record { made = k; excess = e })

-- more room and a longer scratch change no verdict
pub any_room : (job : List ℕ) (room scratch : ℕ) → n_in job ≤ room → scratch_long ≤ scratch → plan_verdict job room scratch ≡ verdict_on job
unfolding plan_verdict
any_room job room scratch h l = rw (room_enough (n_in job) room scratch h l, room_enough (n_in job) (n_in job) scratch_long (omega arith) (omega arith))

-- whatever plan leaves in the lent memory: no round was made, the excess was 0, and this is the sheet
module _ (job written : List ℕ) (h : Holds (sheet job written))
    (plan₀ plan s₀ s : List ℕ) (r : Finish) (call : PlanCall job plan₀ plan s₀ s r) (room : n_in job ≤ length plan₀) (long : scratch_long ≤ length s₀) where
  abbrev J : Netlist
  J = job_in job

  sound : job_verdict job ≡ Ok tt
  unfolding plan_verdict
  sound = then_first _ _ h.0

  same_deal : Alike J (at (dealt J plan₀)) (at (deal_of job))
  same_deal i l = sym (dealt_alike J plan₀ i l) ∙ dealt_alike J [] i l

  deal_legal : Legal J (at (dealt J plan₀))
  deal_legal = excess_alike J (at (dealt J plan₀)) (at (deal_of job)) same_deal ∙ h.1

  by_deal : (k e : ℕ) → r ≡ done k e → PlannedIn job plan₀ plan s₀ s k e
      → (r ≡ done 0 0) × (sheet_of job (at plan) ≡ written)
  by_deal k e q p =
      let f = p.finished in
      let c = chain_from_legal J (at (dealt J plan₀)) deal_legal f.chain in
      let zero-rounds = c.0 in
      let zero-excess = f.excess ∙ deal_legal in (
        rw (q, zero-rounds, zero-excess),
        ap (sheet_of job) c.1 ∙ same_sheet job (at (dealt J plan₀)) (at (deal_of job)) same_deal ∙ h.3,
      )

  pub sheet_says : (r ≡ done 0 0) × (sheet_of job (at plan) ≡ written)
  sheet_says =
      let p = plan_within job plan₀ plan s₀ s r call sound room long (fitting job (n_in job) scratch_long h.0).within in
      by_deal p.0 p.1 p.2 (done_planned job plan₀ plan s₀ s p.0 p.1 (subst (PlanCall job plan₀ plan s₀ s) p.2 call)).1

-- every legal assignment is among the listed ones
pub legal_says : (J : Netlist) (plans : List (List ℕ)) → Holds (legal J plans)
    → (a : ℕ → ℕ) → InRange J a → Legal J a → Contains plans (row a J.n)
legal_says J plans h a l z =
    let same : Alike J (at (row a J.n)) a = λ i k. row_at a J.n i k in
    let e : excess_of J (row a J.n) ≡ 0 = excess_alike J (at (row a J.n)) a same ∙ z in
    subst (λ (l : List (List ℕ)). Contains l (row a J.n)) h
    (passes_kept (λ b. eqb (excess_of J b) 0) (row a J.n) (ways J.c J.n) (way_among J.c a J.n l) (eq-eqb (excess_of J (row a J.n)) 0 e))

-- and each of these is legal
pub listed_legal : (J : Netlist) (plans : List (List ℕ)) → Holds (legal J plans) → (b : List ℕ) → Contains plans b → Legal J (at b)
listed_legal J plans h b m = eqb-true (excess_of J b) 0 (kept_passes (λ d. eqb (excess_of J d) 0) b (ways J.c J.n) (subst (λ (l : List (List ℕ)). Contains l b) (sym h) m))
