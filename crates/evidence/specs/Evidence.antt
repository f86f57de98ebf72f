-- Evidence: the stretch of the caller's job or sheet that the audit finds at fault.
use Rattle.std.specs.Prelude.{List, ℕ, ◌+◌, ◌*◌, Ok, Err}
use Rattle.std.specs.Borrow.{Bor}
use Rattle.words.specs.declared.Place.{Place}
use Rattle.words.specs.declared.Place.TheVariants.{Byte, Net, End, Crossbar}
use Rattle.words.specs.declared.Reason.{Reason}
use Rattle.words.specs.declared.Reason.TheVariants as reason
use Rattle.words.specs.declared.Refusal.{Refusal}
use Rattle.words.specs.Verdict.{Verdict}
use Rattle.words.specs.Lent.{Stretch}
use Rattle.job.specs.Job.{nets_at, first_at}
use Rattle.job.specs.Check.{job_verdict}
use Rattle.sheet.specs.Sheet.{totals_at}
use Rattle.audit.specs.Audit.{against_verdict}
use Rattle.evidence.specs.declared.Fault.{Fault}
use Rattle.evidence.specs.declared.File.{File}
use Rattle.evidence.specs.declared.File.TheVariants as file

-- so many bytes from this one on, of the one file or the other
abbrev pub in_job : ℕ → ℕ → Fault
in_job from long = record { file = file.Job; start = from; long = long }

abbrev pub in_sheet : ℕ → ℕ → Fault
in_sheet from long = record { file = file.Sheet; start = from; long = long }

-- what points at no bytes: the empty start of the job
abbrev pub nothing : Fault
nothing = in_job 0 0

-- of a job's refusal: 9 and 27, the number at its byte; 10, both numbers of the net
abbrev pub job_fault_at : List ℕ → Place → Reason → Fault
job_fault_at job (End i at) reason.FirstEnd = in_job at 2
job_fault_at job (End i at) reason.SecondEnd = in_job at 2
job_fault_at job (End i at) reason.SameEnd = in_job (first_at (nets_at job) i.0) 4
job_fault_at job _ _ = nothing

unfoldable pub job_fault : List ℕ → Refusal → Fault
job_fault job r = job_fault_at job r.place r.reason

-- of a sheet's refusal: 22, the number at the byte; 23, the net's number; 26, the written total
abbrev pub sheet_fault_at : List ℕ → Place → Reason → Fault
sheet_fault_at job (Byte p) reason.SheetHead = in_sheet p 2
sheet_fault_at job (Net i) reason.SheetCrossbar = in_sheet (nets_at job + 2 * i.0) 2
sheet_fault_at job (Crossbar x) reason.WrittenTotal = in_sheet (totals_at job + 2 * x.0) 2
sheet_fault_at job _ _ = nothing

unfoldable pub sheet_fault : List ℕ → Refusal → Fault
sheet_fault job r = sheet_fault_at job r.place r.reason

-- of a verdict, with what is found where it is done
abbrev pub fault_of : (Refusal → Fault) → Verdict → Fault → Fault
fault_of fault (Ok _) next = next
fault_of fault (Err r) next = fault r

-- what the audit of a sheet against a job finds at fault: in the job, then in the sheet
abbrev pub audit_fault : List ℕ → List ℕ → Fault
audit_fault job sheet = fault_of (job_fault job) (job_verdict job) (fault_of (sheet_fault job) (against_verdict job sheet) nothing)

-- the file that a fault lies in
abbrev pub file_of : {A : Type 0} → File → A → A → A
file_of file.Job job sheet = job
file_of file.Sheet job sheet = sheet

-- r is that stretch of the caller's own bytes
abbrev pub EvidenceOf : Fault → Bor (List ℕ) → Bor (List ℕ) → Bor (List ℕ) → Type 0
EvidenceOf e job sheet r = Stretch (file_of e.file job sheet) e.start e.long r

abbrev pub Evidence : Bor (List ℕ) → Bor (List ℕ) → Bor (List ℕ) → Type 0
Evidence job sheet r = EvidenceOf (audit_fault job.now sheet.now) job sheet r
