-- The audit of a sheet against a job: the job's refusals, then 21 to 26. The sheet writer and the sheet reader refuse by the same parts.
use Rattle.words.specs.declared.Reason.TheVariants as reason
use Rattle.std.specs.Prelude.{Ok, Bool, not, List, ◌≡◌, ℕ, ◌*◌, ◌/◌, ◌<◌, eqb, length}
use Rattle.laws.specs.Row.{at}
use Rattle.words.specs.Verdict.{Verdict, refuse_if, too_short, ◌then◌, first_refusal, at_byte, at_crossbar, of_length}
use Rattle.words.specs.Number.{word}
use Rattle.board.specs.Board.{total}
use Rattle.job.specs.Job.{nets_at, c_in, n_in, job_in}
use Rattle.job.specs.Check.{job_verdict}
use Rattle.fit.specs.Fit.{fit_verdict, Fit}
use Rattle.sheet.specs.Sheet.{totals_count_at, sheet_length, crossbar_in, total_in, sheet_of}

-- ---- the parts

-- 22: number k of the sheet's head is not that of the job's
unfoldable pub unlike : List ℕ → List ℕ → ℕ → Bool
unlike job sheet k = not (eqb (word sheet (2 * k)) (word job (2 * k)))

-- all numbers of the two heads in order, then the totals' count
unfoldable pub heads_verdict : List ℕ → List ℕ → Verdict
heads_verdict job sheet =
    first_refusal (λ k. refuse_if (unlike job sheet k) reason.SheetHead (at_byte (2 * k))) (nets_at job / 2) then
    refuse_if (not (eqb (word sheet (totals_count_at job)) (c_in job))) reason.SheetHead (at_byte (totals_count_at job))

-- 26: a written total is wrong
unfoldable pub wrong : (ℕ → ℕ) → (ℕ → ℕ) → ℕ → Bool
wrong totals written x = not (eqb (written x) (totals x))

unfoldable pub totals_verdict : (ℕ → ℕ) → (ℕ → ℕ) → ℕ → Verdict
totals_verdict totals written c = first_refusal (λ x. refuse_if (wrong totals written x) reason.WrittenTotal (at_crossbar x)) c

-- ---- the audit

-- 23 to 26, by the sheet's own numbers
unfoldable pub numbers_verdict : List ℕ → List ℕ → Verdict
numbers_verdict job sheet =
    fit_verdict reason.SheetCrossbar (job_in job) (crossbar_in job sheet) then
    totals_verdict (total (job_in job) (crossbar_in job sheet)) (total_in job sheet) (c_in job)

-- 21 to 26
unfoldable pub against_verdict : List ℕ → List ℕ → Verdict
against_verdict job sheet =
    refuse_if (not (eqb (length sheet) (sheet_length job))) reason.SheetLength (of_length (length sheet)) then
    heads_verdict job sheet then
    numbers_verdict job sheet

unfoldable pub audit_verdict : List ℕ → List ℕ → Verdict
audit_verdict job sheet = job_verdict job then against_verdict job sheet

-- ---- the sheet writer and the sheet reader

-- 11: fewer than n numbers, or too little room for the sheet, by their lengths
unfoldable pub lent_verdict : List ℕ → ℕ → ℕ → Verdict
lent_verdict job plan_length room_length =
    too_short plan_length (n_in job) then
    too_short room_length (sheet_length job)

-- the sheet writer: 1 to 11, then 13, 24, 25
unfoldable pub write_sheet_verdict : List ℕ → List ℕ → ℕ → Verdict
write_sheet_verdict job plan room_length =
    job_verdict job then
    lent_verdict job (length plan) room_length then
    fit_verdict reason.Start (job_in job) (at plan)

-- the sheet reader: the audit's refusals, then 11
unfoldable pub read_sheet_verdict : List ℕ → List ℕ → ℕ → Verdict
read_sheet_verdict job sheet plan_length = audit_verdict job sheet then too_short plan_length (n_in job)

-- ---- what it means that nothing is refused

-- what an audit that is done has shown
pub record Audited (job sheet : List ℕ) : Type 0 where
  pub passes : job_verdict job ≡ Ok tt
  pub long : length sheet ≡ sheet_length job
  pub heads : (k : ℕ) → k < nets_at job / 2 → word sheet (2 * k) ≡ word job (2 * k)
  pub totals_count : word sheet (totals_count_at job) ≡ c_in job
  pub fit : Fit (job_in job) (crossbar_in job sheet)
  pub totals : (x : ℕ) → x < c_in job → total_in job sheet x ≡ total (job_in job) (crossbar_in job sheet) x

-- the sheet is what the writer writes, with just room enough, for some assignment that it does not refuse
pub record IsWritten (job sheet : List ℕ) : Type 0 where
  pub plan : List ℕ
  pub accepted : write_sheet_verdict job plan (sheet_length job) ≡ Ok tt
  pub same : sheet ≡ sheet_of job (at plan)
