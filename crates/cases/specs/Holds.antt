-- What each row of the table means, by the definitions that the contracts cite.
use Rattle.std.specs.Prelude.{◌≡◌, true, List, [], ◌∷◌, ℕ, zero, suc, eqb, length, replicate, Ok}
use Rattle.words.specs.declared.Reason.{Reason}
use Rattle.std.specs.List.{AllByRecursion, filter}
use Rattle.laws.specs.Row.{at, row}
use Rattle.words.specs.Verdict.{Verdict, refuse, at_line, number_for, number_of, p_of, q_of}
use Rattle.job.specs.Job.{n_in, job_in}
use Rattle.board.specs.Netlist.{Netlist}
use Rattle.board.specs.Board.{degree, limit, load, total, total_excess, Legal}
use Rattle.scratch.specs.Scratch.{scratch_long}
use Rattle.refusals.specs.Start.{plan_verdict, round_verdict}
use Rattle.sheet.specs.Sheet.{sheet_of}
use Rattle.audit.specs.Audit.{audit_verdict, write_sheet_verdict}
use Rattle.form.specs.Breaks.{BreaksAs}
use Rattle.text_writer.specs.WriteText.{text_in, write_text_verdict}
use Rattle.text_reader.specs.ReadText.{ReadText}
use Rattle.cases.specs.Ways.{Some, ways}
use Rattle.cases.specs.Rounds.{allowed, possible}
use Rattle.cases.specs.Table.{Stop, Row, deal_of}
use Rattle.cases.specs.Table.Row.{accepted, refused, sheet, full, legal, excess, load_at, one_round, results, always, rounds, text, broken}

-- plan's verdict, with room for n nets and the least scratch
abbrev pub verdict_on : List ℕ → Verdict
verdict_on job = plan_verdict job (n_in job) scratch_long

-- a round from this start is not refused
abbrev pub NotRefused : List ℕ → List ℕ → Type 0
NotRefused job start = round_verdict job start scratch_long ≡ Ok tt

abbrev pub loads_of : Netlist → List ℕ → ℕ → List ℕ
loads_of J plan v = row (load J (at plan) v) J.c

abbrev pub totals_of : Netlist → List ℕ → List ℕ
totals_of J plan = row (total J (at plan)) J.c

abbrev pub excess_of : Netlist → List ℕ → ℕ
excess_of J plan = total_excess J (at plan)

-- each plan but the first comes from the one before it by a round, and the last is legal
abbrev pub Linked : Netlist → List Stop → Type 0
Linked J [] = ⊥
Linked J (s ∷ []) = Legal J (at s.plan)
Linked J (s ∷ t ∷ stops) = (allowed J (at s.plan) (at t.plan) ≡ true) × Linked J (t ∷ stops)

-- after k rounds the stop is t
abbrev pub After : List Stop → ℕ → Stop → Type 0
After [] k t = ⊥
After (s ∷ stops) zero t = s ≡ t
After (s ∷ stops) (suc k) t = After stops k t

abbrev pub first_plan : List Stop → List ℕ
first_plan [] = []
first_plan (s ∷ stops) = s.plan

abbrev pub Holds : Row → Type 0
Holds (accepted job) = verdict_on job ≡ Ok tt
Holds (refused job number p q) = (number_of (verdict_on job) ≡ number) × (p_of (verdict_on job) ≡ p) × (q_of (verdict_on job) ≡ q)
Holds (sheet job written) =
    (verdict_on job ≡ Ok tt)
    × Legal (job_in job) (at (deal_of job))
    × (write_sheet_verdict job (deal_of job) (length written) ≡ Ok tt)
    × (sheet_of job (at (deal_of job)) ≡ written)
    × (audit_verdict job written ≡ Ok tt)
Holds (full J d) = (row (degree J) J.f ≡ replicate J.f d) × (row (limit J) J.f ≡ replicate J.f d)
Holds (legal J plans) = filter (λ b. eqb (excess_of J b) 0) (ways J.c J.n) ≡ plans
Holds (excess job plan e) = excess_of (job_in job) plan ≡ e
Holds (load_at job plan v x l) = load (job_in job) (at plan) v x ≡ l
Holds (one_round job start) =
    let J = job_in job in NotRefused job start × Some (possible J (at start)) × AllByRecursion (λ b. Legal J (at b)) (possible J (at start))
Holds (results job start plans) = NotRefused job start × (possible (job_in job) (at start) ≡ plans)
Holds (always job start v loads totals) =
    let J = job_in job in NotRefused job start × AllByRecursion (λ b. (loads_of J b v ≡ loads) × (totals_of J b ≡ totals)) (possible J (at start))
Holds (rounds job stops) =
    let J = job_in job in
    NotRefused job (first_plan stops)
    × AllByRecursion (λ s. (excess_of J s.plan ≡ s.excess) × (totals_of J s.plan ≡ s.totals)) stops
    × Linked J stops
Holds (text job t) = (write_text_verdict job (length t) ≡ Ok tt) × (text_in job ≡ t) × ReadText t (replicate (length job) 0) job (Ok (length job))
Holds (broken t number p q) = (k : Reason) × (number_for k ≡ number) × BreaksAs t (refuse k (at_line p q))

-- each of these rows holds
abbrev pub AllHold : List (ℕ × Row) → Type 0
AllHold rows = AllByRecursion (λ r. Holds r.1) rows
