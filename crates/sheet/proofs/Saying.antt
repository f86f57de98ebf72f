-- What a written sheet says, and what is read of any sheet that is long enough.
-- Assumes nothing.
use mathlib.Core.Path.{◌≡◌, ap, sym, ◌∙◌}
use mathlib.Core.List.{List, ◌∷◌, ◌++◌}
use Prim.Native.Nat.{ℕ, suc, ◌+◌, ◌-◌, ◌*◌, ◌≤◌, ◌<◌}
use native.Mathlib.Omega.{arith}
use lib.ListN.{length, get_or, take, drop, length-append, get_or-append}
use lib.Seq.{get_or_at, get_or-append-add, get_or-take, take_at, drop_at, length-take-le}
use Rattle.laws.specs.Row.{at, row}
use Rattle.laws.proofs.Row.{length_row, row_at, row_same}
use Rattle.words.specs.Lent.{onto}
use Rattle.words.specs.Number.{word, bytes, numbers}
use Rattle.words.proofs.Bytes.{length_bytes, word_bytes, word_drop, numbers_row, lent_to_end}
use Rattle.board.specs.Board.{total, Alike}
use Rattle.board.proofs.Alike.{total_alike}
use Rattle.job.specs.declared.Head.{Head}
use Rattle.job.specs.Job.{nets_at, c_in, n_in, job_in}
use Rattle.job.specs.Check.{WellFormed}
use Rattle.sheet.specs.Sheet.{totals_count_at, sheet_length, crossbar_in, total_in, sheet_numbers, sheet_of}

-- ---- what is written

module _ (job : List ℕ) (a : ℕ → ℕ) (whole : nets_at job ≤ length job) where
  head_is_long : length (take (nets_at job) job) ≡ nets_at job
  head_is_long = length-take-le (nets_at job) job whole

  pub said_length : length (sheet_of job a) ≡ sheet_length job
  unfolding sheet_of
  said_length = simp (length-append, length_bytes, length_row, head_is_long) (omega arith)

  -- the job's own head
  pub said_head : (i : ℕ) → i + 1 < nets_at job → word (sheet_of job a) i ≡ word job i
  unfolding sheet_of word
  said_head i l = rw (same i (omega arith), same (i + 1) l)
    where
      same : (i : ℕ) → i < nets_at job → get_or (take (nets_at job) job ++ bytes (sheet_numbers job a)) i 0 ≡ get_or job i 0
      same i l = get_or-append (take (nets_at job) job) (bytes (sheet_numbers job a)) 0 i (omega (arith, head_is_long)) ∙ get_or-take (nets_at job) job i 0 l

  -- a number behind it
  behind : (k : ℕ) → word (sheet_of job a) (nets_at job + 2 * k) ≡ get_or (sheet_numbers job a) k 0
  unfolding sheet_of
  behind k = sym (word_drop (nets_at job) _ (2 * k)) ∙ rw (drop_at _ (bytes (sheet_numbers job a)) (nets_at job) head_is_long) (word_bytes (sheet_numbers job a) k)

  pub said_crossbar : (i : ℕ) → i < n_in job → crossbar_in job (sheet_of job a) i ≡ a i
  said_crossbar i l = behind i ∙ get_or-append (row a (n_in job)) _ 0 i (omega (arith, length_row a (n_in job))) ∙ row_at a (n_in job) i l

  pub said_totals_count : word (sheet_of job a) (totals_count_at job) ≡ c_in job
  said_totals_count = behind (n_in job) ∙ get_or_at (row a (n_in job)) _ _ 0 (n_in job) (length_row a (n_in job))

  pub said_total : (x : ℕ) → x < c_in job → total_in job (sheet_of job a) x ≡ total (job_in job) a x
  said_total x l =
      let e : nets_at job + 2 * n_in job + 2 + 2 * x ≡ nets_at job + 2 * (length (row a (n_in job)) + suc x) = omega (arith, length_row a (n_in job)) in
      ap (word (sheet_of job a)) e ∙ behind (length (row a (n_in job)) + suc x)
      ∙ get_or-append-add (row a (n_in job)) (c_in job ∷ row (total (job_in job) a) (c_in job)) (suc x) 0
      ∙ row_at (total (job_in job) a) (c_in job) x l

-- assignments that agree on every net have the same sheet
pub same_sheet : (job : List ℕ) (a b : ℕ → ℕ) → ((i : ℕ) → i < n_in job → a i ≡ b i) → sheet_of job a ≡ sheet_of job b
unfolding sheet_of
same_sheet job a b h = rw (row_same a b (n_in job) h, row_same (total (job_in job) a) (total (job_in job) b) (c_in job) (λ x l. total_alike (job_in job) a b h x))

-- ---- what is read

module _ (job sheet : List ℕ) where
  -- the crossbar numbers, to the front of a lent list
  pub front_read : (h : Head) → WellFormed job h → (plan new : List ℕ) → totals_count_at job ≤ length sheet → h.n ≤ length plan
      → new ≡ take (length (take h.n plan)) (numbers (take (length sheet - h.start) (drop h.start sheet))) → new ++ drop h.n plan ≡ onto (row (crossbar_in job sheet) (n_in job)) plan
  front_read h p plan new long l e =
      rw (e, length-take-le h.n plan l, lent_to_end sheet h.start, p.n, p.start, read, length_row (crossbar_in job sheet) (n_in job))
    where
      read : take (n_in job) (numbers (drop (nets_at job) sheet)) ≡ row (crossbar_in job sheet) (n_in job)
      read = ap (take (n_in job)) (numbers_row sheet (nets_at job) (n_in job) long) ∙ take_at (row (crossbar_in job sheet) (n_in job)) _ (n_in job) (length_row (crossbar_in job sheet) (n_in job))

  -- so the list says what the sheet says
  pub front_alike : (plan r : List ℕ) → plan ≡ onto (row (crossbar_in job sheet) (n_in job)) r → Alike (job_in job) (at plan) (crossbar_in job sheet)
  front_alike plan r e i l =
      rw e (get_or-append (row (crossbar_in job sheet) (n_in job)) _ 0 i (omega (arith, length_row (crossbar_in job sheet) (n_in job))) ∙ row_at (crossbar_in job sheet) (n_in job) i l)
