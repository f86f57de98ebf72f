-- The audit accepts what is written for a legal balanced assignment, and only that; and two sheets of a job that it accepts differ in meaning.
-- Assumes nothing.
use mathlib.Core.Path.{◌≡◌, ap, sym, ◌∙◌}
use mathlib.Core.List.{List, [], ◌++◌, append-nil}
use Prim.Native.Nat.{ℕ, ◌+◌, ◌*◌, ◌/◌, ◌%◌, ◌≤◌, ◌<◌}
use native.Mathlib.Omega.{arith}
use lib.ListN.{length, get_or, take, drop, take-append-drop, length-drop, drop_of_length-le}
use lib.Seq.{ext_get_or, get_or-take, get_or-drop, length-take-le}
use borrow.Author.Tests.{eqb-true, not-false}
use Rattle.laws.specs.Row.{row}
use Rattle.laws.proofs.Row.{row_same}
use Rattle.laws.proofs.Cases.{by_same}
use Rattle.std.specs.Prelude.{Ok}
use Rattle.words.specs.declared.Reason.TheVariants as reason
use Rattle.words.specs.Number.{word, numbers, AreBytes}
use Rattle.words.proofs.Order.{then_first, then_second, then_done, passed}
use Rattle.words.proofs.Bytes.{bytes_numbers, numbers_row}
use Rattle.board.specs.Board.{total, Alike}
use Rattle.job.specs.Job.{nets_at, c_in, n_in, job_in}
use Rattle.job.specs.Check.{job_verdict}
use Rattle.job.proofs.Passing.{passes}
use Rattle.job.proofs.Reading.{nets_at_even}
use Rattle.sheet.specs.Sheet.{totals_count_at, totals_at, crossbar_in, total_in, sheet_numbers, sheet_of}
use Rattle.sheet.proofs.Saying.{said_length, said_head, said_crossbar, said_totals_count, said_total, same_sheet}
use Rattle.fit.specs.Fit.{Fit}
use Rattle.fit.proofs.Parts.{fit_says, fit_alike}
use Rattle.audit.specs.Audit.{numbers_verdict, against_verdict, audit_verdict, Audited}
use Rattle.audit.proofs.Parts.{right_length, heads_say, totals_say, totals_alike}

-- The audit accepts what is written for a legal balanced assignment.
module _ (job : List ℕ) (a : ℕ → ℕ) (done : job_verdict job ≡ Ok tt) where
  whole : nets_at job ≤ length job
  whole = omega (arith, (passes job done).long)

  pub reads_back : Alike (job_in job) (crossbar_in job (sheet_of job a)) a
  reads_back = said_crossbar job a whole

  pub written_audits : Fit (job_in job) a → audit_verdict job (sheet_of job a) ≡ Ok tt
  unfolding audit_verdict numbers_verdict
  written_audits fit =
      then_done _ _ done
      (right_length job (sheet_of job a) (said_length job a whole)
      ∙ then_done _ _ ((heads_say job (sheet_of job a)).1 (λ k l. said_head job a whole (2 * k) (omega arith), said_totals_count job a whole))
      (then_done _ _ (fit_alike (job_in job) _ a reads_back reason.SheetCrossbar ∙ (fit_says (job_in job) a reason.SheetCrossbar).1 fit)
      (totals_alike (job_in job) _ a reads_back _ ∙ (totals_say (job_in job) a _).1 (said_total job a whole))))

-- What an audit that is done has shown.
pub audited : (job sheet : List ℕ) → audit_verdict job sheet ≡ Ok tt → Audited job sheet
unfolding audit_verdict against_verdict numbers_verdict
audited job sheet done =
    let against = then_second _ _ done in
    let rest = then_second _ _ against in
    let heads = (heads_say job sheet).0 (then_first _ _ rest) in
    let own = then_second _ _ rest in
    record {
      passes = then_first _ _ done;
      long = eqb-true _ _ (not-false _ (passed _ reason.SheetLength _ (then_first _ _ against)));
      heads = heads.0;
      totals_count = heads.1;
      fit = (fit_says (job_in job) (crossbar_in job sheet) reason.SheetCrossbar).0 (then_first _ _ own);
      totals = (totals_say (job_in job) (crossbar_in job sheet) (total_in job sheet)).0 (then_second _ _ own);
    }

-- Two lists of bytes whose first numbers are the same begin with the same bytes.
module _ (s t : List ℕ) (n : ℕ) (even : n % 2 ≡ 0) (bytes-s : AreBytes s) (bytes-t : AreBytes t) (long-s : n ≤ length s) (long-t : n ≤ length t)
    (same : (k : ℕ) → k < n / 2 → word s (2 * k) ≡ word t (2 * k)) where
  two_bytes : (k : ℕ) → k < n / 2 → (get_or s (2 * k) 0 ≡ get_or t (2 * k) 0) × (get_or s (2 * k + 1) 0 ≡ get_or t (2 * k + 1) 0)
  unfolding word
  two_bytes k l =
      let e = same k l in
      let a = bytes-s (2 * k + 1) (omega arith) in
      let b = bytes-t (2 * k + 1) (omega arith) in
      (omega arith, omega arith)

  a_byte : (i : ℕ) → i < n → get_or s i 0 ≡ get_or t i 0
  a_byte i l =
      by_same (i % 2) 0 (λ z. let e : 2 * (i / 2) ≡ i = omega arith in rw e at (two_bytes (i / 2) (omega arith)).0)
      (λ nz. let e : 2 * (i / 2) + 1 ≡ i = omega arith in rw e at (two_bytes (i / 2) (omega arith)).1)

  same_front : take n s ≡ take n t
  same_front =
      let ls = length-take-le n s long-s in
      let lt = length-take-le n t long-t in
      ext_get_or 0 (take n s) (take n t) (ls ∙ sym lt) (λ i l. let k : i < n = omega arith in get_or-take n s i 0 k ∙ a_byte i k ∙ sym (get_or-take n t i 0 k))

-- The audit accepts only what is written: writing what was read gives the same bytes.
module _ (job sheet : List ℕ) (bytes-job : AreBytes job) (bytes-sheet : AreBytes sheet) (e : Audited job sheet) where
  ends : numbers (drop (totals_at job) sheet) ≡ row (total (job_in job) (crossbar_in job sheet)) (c_in job)
  ends =
      let none : drop (totals_at job + 2 * c_in job) sheet ≡ [] = drop_of_length-le sheet {i = totals_at job + 2 * c_in job} (omega (arith, e.long)) in
      numbers_row sheet (totals_at job) (c_in job) (omega (arith, e.long))
      ∙ rw (none, append-nil) (row_same _ _ (c_in job) e.totals)

  behind_head : numbers (drop (nets_at job) sheet) ≡ sheet_numbers job (crossbar_in job sheet)
  unfolding row
  behind_head =
      let z : totals_count_at job + 2 * 0 ≡ totals_count_at job = omega arith in
      numbers_row sheet (nets_at job) (n_in job) (omega (arith, e.long))
      ∙ ap (λ (t : List ℕ). row (crossbar_in job sheet) (n_in job) ++ t) (numbers_row sheet (totals_count_at job) 1 (omega (arith, e.long)) ∙ rw (z, e.totals_count, ends))

  pub audited_is_written : sheet ≡ sheet_of job (crossbar_in job sheet)
  unfolding sheet_of
  audited_is_written =
      let small : AreBytes (drop (nets_at job) sheet) = λ i l. rw (get_or-drop (nets_at job) sheet i 0) (bytes-sheet (nets_at job + i) (omega (arith, length-drop (nets_at job) sheet))) in
      sym (take-append-drop (nets_at job) sheet)
      ∙ rw (
        same_front sheet job (nets_at job) (nets_at_even job) bytes-sheet bytes-job (omega (arith, e.long)) (omega (arith, (passes job e.passes).long)) e.heads,
        ← behind_head,
        bytes_numbers (drop (nets_at job) sheet) (simp length-drop (omega (arith, e.long))) small,
      )

-- Two sheets of a job with the same meaning are the same bytes.
pub same_meaning : (job sheet₁ sheet₂ : List ℕ) → AreBytes job → AreBytes sheet₁ → AreBytes sheet₂ → audit_verdict job sheet₁ ≡ Ok tt → audit_verdict job sheet₂ ≡ Ok tt
    → ((i : ℕ) → i < n_in job → crossbar_in job sheet₁ i ≡ crossbar_in job sheet₂ i) → sheet₁ ≡ sheet₂
same_meaning job sheet₁ sheet₂ s s₁ s₂ d₁ d₂ h =
    audited_is_written job sheet₁ s s₁ (audited job sheet₁ d₁) ∙ same_sheet job _ _ h ∙ sym (audited_is_written job sheet₂ s s₂ (audited job sheet₂ d₂))
