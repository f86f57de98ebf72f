-- The sheet writer refuses no legal balanced assignment, and the audit is done exactly for what it writes.
-- Assumes nothing.
use mathlib.Core.Path.{◌≡◌, sym, ◌∙◌}
use mathlib.Core.Logic.{◌↔◌}
use mathlib.Core.List.{List}
use Prim.Native.Nat.{ℕ, ◌≤◌, ◌<◌}
use native.Mathlib.Omega.{arith}
use lib.ListN.{length}
use Rattle.laws.specs.Row.{at, row}
use Rattle.laws.proofs.Row.{length_row, row_at}
use Rattle.std.specs.Prelude.{Ok}
use Rattle.words.specs.declared.Reason.TheVariants as reason
use Rattle.words.specs.Number.{AreBytes}
use Rattle.words.proofs.Order.{then_first, then_second, then_done, long_enough}
use Rattle.board.specs.Board.{Alike}
use Rattle.job.specs.Job.{n_in, job_in}
use Rattle.job.specs.Check.{job_verdict}
use Rattle.sheet.specs.Sheet.{sheet_length, crossbar_in, sheet_of}
use Rattle.sheet.proofs.Saying.{same_sheet}
use Rattle.fit.specs.Fit.{Fit}
use Rattle.fit.proofs.Parts.{fit_says, fit_alike}
use Rattle.audit.specs.Audit.{lent_verdict, audit_verdict, write_sheet_verdict, IsWritten}
use Rattle.audit.proofs.Agree.{reads_back, written_audits, audited, audited_is_written}

-- what the writer accepts is legal, balanced and in range, and the audit accepts what it writes
module _ (job plan : List ℕ) (room : ℕ) (done : write_sheet_verdict job plan room ≡ Ok tt) where
  its_job : job_verdict job ≡ Ok tt
  unfolding write_sheet_verdict
  its_job = then_first _ _ done

  its_plan : Fit (job_in job) (at plan)
  unfolding write_sheet_verdict
  its_plan = (fit_says (job_in job) (at plan) reason.Start).0 (then_second _ _ (then_second _ _ done))

  pub writer_audits : audit_verdict job (sheet_of job (at plan)) ≡ Ok tt
  writer_audits = written_audits job (at plan) its_job its_plan

  -- and reading it gives the assignment back
  pub writer_reads_back : (i : ℕ) → i < n_in job → crossbar_in job (sheet_of job (at plan)) i ≡ at plan i
  writer_reads_back = reads_back job (at plan) its_job

-- and with a job that passes, n numbers and room enough it accepts every such assignment
module _ (job plan : List ℕ) (room : ℕ) (sound : job_verdict job ≡ Ok tt) (nets : n_in job ≤ length plan) (long : sheet_length job ≤ room) where
  lent : lent_verdict job (length plan) room ≡ Ok tt
  unfolding lent_verdict
  lent = then_done _ _ ((long_enough _ _).1 nets) ((long_enough _ _).1 long)

  pub writer_accepts_fit : (write_sheet_verdict job plan room ≡ Ok tt) ↔ Fit (job_in job) (at plan)
  unfolding write_sheet_verdict
  writer_accepts_fit = (its_plan job plan room, λ fit. then_done _ _ sound (then_done _ _ lent ((fit_says (job_in job) (at plan) reason.Start).1 fit)))

-- the audit is done exactly where the sheet is what the writer writes
module _ (job sheet : List ℕ) (bytes-job : AreBytes job) (bytes-sheet : AreBytes sheet) where
  -- the assignment that the sheet says, as numbers to lend
  said : List ℕ
  said = row (crossbar_in job sheet) (n_in job)

  said_alike : Alike (job_in job) (at said) (crossbar_in job sheet)
  unfolding said
  said_alike i l = row_at (crossbar_in job sheet) (n_in job) i l

  pub audit_exactly : (audit_verdict job sheet ≡ Ok tt) ↔ IsWritten job sheet
  unfolding said
  audit_exactly = (
    λ done.
        let e = audited job sheet done in
        let fit = (fit_says (job_in job) (at said) reason.SheetCrossbar).0 (fit_alike (job_in job) (at said) (crossbar_in job sheet) said_alike reason.SheetCrossbar ∙ (fit_says (job_in job) (crossbar_in job sheet) reason.SheetCrossbar).1 e.fit) in
        record {
          plan = said;
          accepted = (writer_accepts_fit job said (sheet_length job) e.passes (omega (arith, length_row (crossbar_in job sheet) (n_in job))) (omega arith)).1 fit;
          same = audited_is_written job sheet bytes-job bytes-sheet e ∙ sym (same_sheet job (at said) (crossbar_in job sheet) said_alike);
        },
    λ w. rw w.same (writer_audits job w.plan (sheet_length job) w.accepted),
  )
