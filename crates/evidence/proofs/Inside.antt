-- What the audit finds at fault lies inside the file that it is in.
-- Assumes nothing.
use mathlib.Core.Path.{◌≡◌}
use mathlib.Core.List.{List}
use Prim.Native.Nat.{ℕ, ◌+◌, ◌/◌, ◌≤◌, ◌<◌}
use native.Mathlib.Omega.{arith}
use lib.ListN.{length}
use borrow.Author.Tests.{eqb-true, not-false}
use Rattle.words.specs.declared.Reason.{Reason}
use Rattle.words.specs.declared.Reason.TheVariants as reason
use Rattle.words.specs.declared.Refusal.{Refusal}
use Rattle.words.specs.Verdict.{Verdict, at_byte, of_length}
use Rattle.std.specs.Prelude.{Ok, Err}
use Rattle.words.proofs.Order.{passed}
use Rattle.words.proofs.Always.{Always, always_if, always_then, always_first}
use Rattle.job.specs.Job.{nets_at, f_in, c_in, n_in, job_length, first_in, second_in}
use Rattle.job.specs.Check.{net_verdict, nets_verdict, job_verdict}
use Rattle.job.proofs.Stages.{its_length}
use Rattle.job.proofs.Places.{head_always, length_always}
use Rattle.refusals.specs.Refusals.{range_verdict}
use Rattle.sheet.specs.Sheet.{sheet_length}
use Rattle.fit.specs.Fit.{loads_verdict, spread_verdict, fit_verdict}
use Rattle.audit.specs.Audit.{heads_verdict, totals_verdict, numbers_verdict, against_verdict}
use Rattle.evidence.specs.declared.Fault.{Fault}
use Rattle.evidence.specs.declared.File.{File}
use Rattle.evidence.specs.declared.File.TheVariants as file
use Rattle.evidence.specs.Evidence.{job_fault, sheet_fault, fault_of, audit_fault, file_of}

abbrev pub Inside : List ℕ → List ℕ → Fault → Type 0
Inside job sheet e = e.start + e.long ≤ length (file_of e.file job sheet)

-- what the refusal of a verdict points at lies inside
abbrev Points : List ℕ → List ℕ → (Refusal → Fault) → Verdict → Type 0
Points job sheet fault v = Always (λ r. Inside job sheet (fault r)) v

module _ (job sheet : List ℕ) where
  -- ---- the job's refusals

  -- a byte or a length points at nothing
  byte_inside : (k : Reason) (at : ℕ) → Inside job sheet (job_fault job (record { reason = k; place = at_byte at }))
  unfolding job_fault
  byte_inside k at = omega arith

  length_inside : (k : Reason) (n : ℕ) → Inside job sheet (job_fault job (record { reason = k; place = of_length n }))
  unfolding job_fault
  length_inside k n = omega arith

  nets_inside : length job ≡ job_length job → Points job sheet (job_fault job) (nets_verdict (f_in job) (nets_at job) (first_in job) (second_in job) (n_in job))
  unfolding nets_verdict net_verdict job_fault
  nets_inside long =
      always_first _ (n_in job) (λ i l.
      always_then _ _ (always_if _ reason.FirstEnd _ (λ _. omega arith)) (λ _.
      always_then _ _ (always_if _ reason.SecondEnd _ (λ _. omega arith)) (λ _. always_if _ reason.SameEnd _ (λ _. omega arith))))

  job_inside : Points job sheet (job_fault job) (job_verdict job)
  unfolding job_verdict
  job_inside =
      always_then _ _ (head_always job _ byte_inside length_inside) (λ _.
      always_then _ _ (length_always job _ byte_inside length_inside) (λ long. nets_inside (its_length job long)))

  -- ---- the sheet's

  module _ (long : length sheet ≡ sheet_length job) where
    heads_inside : Points job sheet (sheet_fault job) (heads_verdict job sheet)
    unfolding heads_verdict sheet_fault
    heads_inside = always_then _ _ (always_first _ (nets_at job / 2) (λ k l. always_if _ reason.SheetHead _ (λ _. omega arith))) (λ _. always_if _ reason.SheetHead _ (λ _. omega arith))

    numbers_inside : Points job sheet (sheet_fault job) (numbers_verdict job sheet)
    unfolding numbers_verdict fit_verdict range_verdict loads_verdict spread_verdict totals_verdict sheet_fault
    numbers_inside =
        always_then _ _
        (always_then _ _ (always_first _ (n_in job) (λ i l. always_if _ reason.SheetCrossbar _ (λ _. omega arith))) (λ _.
        always_then _ _ (always_first _ (f_in job) (λ v lv. always_first _ (c_in job) (λ x lx. always_if _ reason.Load _ (λ _. omega arith)))) (λ _.
        always_first _ (c_in job) (λ x l. always_if _ reason.Spread _ (λ _. omega arith))))) (λ _.
        always_first _ (c_in job) (λ x l. always_if _ reason.WrittenTotal _ (λ _. omega arith)))

  sheet_inside : Points job sheet (sheet_fault job) (against_verdict job sheet)
  unfolding against_verdict sheet_fault
  sheet_inside =
      always_then _ _ (always_if _ reason.SheetLength _ (λ _. omega arith)) (λ right.
      let long = eqb-true _ _ (not-false _ (passed _ reason.SheetLength _ right)) in
      always_then _ _ (heads_inside long) (λ _. numbers_inside long))

  -- ---- the audit's

  or_else : (fault : Refusal → Fault) (v : Verdict) (e : Fault) → Points job sheet fault v → Inside job sheet e → Inside job sheet (fault_of fault v e)
  or_else fault (Ok _) e h g = g
  or_else fault (Err r) e h g = h.holds

  pub audit_inside : Inside job sheet (audit_fault job sheet)
  audit_inside = or_else _ (job_verdict job) _ job_inside (or_else _ (against_verdict job sheet) _ sheet_inside (omega arith))

  pub found_inside : (e : Fault) → e ≡ audit_fault job sheet → Inside job sheet e
  found_inside e q = rw q audit_inside

-- what lies inside either file is at a byte that can be counted
pub in_file_fits : (f : File) (job sheet : List ℕ) (x top : ℕ) → x ≤ length (file_of f job sheet) → length job < top → length sheet < top → x < top
in_file_fits file.Job job sheet x top h j s = omega arith
in_file_fits file.Sheet job sheet x top h j s = omega arith
