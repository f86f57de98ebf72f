-- How long the text of a job is, piece by piece, and at most.
-- Assumes nothing.
use mathlib.Core.Path.{◌≡◌, sym, ap, ◌∙◌}
use mathlib.Core.List.{List, [], ◌++◌, append_assoc}
use Prim.Native.Nat.{ℕ, ◌+◌, ◌*◌, ◌≤◌, ◌<◌}
use native.Mathlib.Omega.{arith}
use lib.ListN.{length, drop, length-append, drop_of_length-le}
use Rattle.std.specs.Prelude.{Ok}
use Rattle.job.specs.declared.Head.{Head}
use Rattle.job.specs.Job.{job_length, f_in, c_in, m_in, n_in, head_in, first_in, second_in, nets_in}
use Rattle.job.specs.Check.{job_verdict, WellFormed}
use Rattle.job.proofs.Passing.{passes}
use Rattle.job_writer.specs.Write.{first_of, second_of}
use Rattle.job_writer.proofs.RoundTrip.{nets_length, nets_first, nets_second}
use Rattle.text.specs.Forms.{decimal}
use Rattle.text.proofs.Decimals.{decimal_short}
use Rattle.form.specs.Form.{net_line, board_text, count_text, nets_text, text_of}
use Rattle.form.proofs.ByNumber.{lines_from}
use Rattle.form.proofs.Most.{line_long, head_text_long, nets_most}
use Rattle.text_writer.specs.WriteText.{text_in, most_text}

-- the lines of the nets from net i on, in a job that passed the check
module _ (job : List ℕ) (h : Head) (well : WellFormed job h) where
  pub right_long : length job ≡ job_length job
  right_long = rw (well.start, well.n) at well.long

  pub lines_of : (i v w : ℕ) → i < h.n → v ≡ first_in job i → w ≡ second_in job i → nets_text (drop (2 * i) (nets_in job)) ≡ net_line v w ++ nets_text (drop (2 * (i + 1)) (nets_in job))
  lines_of i v w l e g =
      let inside : i < n_in job = rw well.n at l in
      lines_from (n_in job) (nets_in job) (nets_length job right_long) i inside ∙ rw (nets_first job right_long i inside, nets_second job right_long i inside, e, g)

  pub lines_none : (i : ℕ) → h.n ≤ i → nets_text (drop (2 * i) (nets_in job)) ≡ []
  unfolding nets_text
  lines_none i l = ap nets_text (drop_of_length-le (nets_in job) {i = 2 * i} (omega (arith, nets_length job right_long, well.n)))

  -- at most three digits in each number
  pub line_most : (i v w : ℕ) → i < h.n → v ≡ first_in job i → w ≡ second_in job i → (length (decimal v) ≤ 3) × (length (decimal w) ≤ 3)
  line_most i v w l e g =
      let j = well.nets i l in let r = well.ranged in
      (decimal_short 2 v (omega (arith, j.first_below, r.f_high, e)), decimal_short 2 w (omega (arith, j.second_below, r.f_high, g)))

  pub lines_long : (i v w : ℕ) → i < h.n → v ≡ first_in job i → w ≡ second_in job i
      → length (nets_text (drop (2 * i) (nets_in job))) ≡ length (decimal v) + length (decimal w) + 2 + length (nets_text (drop (2 * (i + 1)) (nets_in job)))
  lines_long i v w l e g = ap length (lines_of i v w l e g) ∙ length-append (net_line v w) _ ∙ ap (λ (k : ℕ). k + length (nets_text (drop (2 * (i + 1)) (nets_in job)))) (line_long v w)

  -- the whole text: its head, then its lines
  pub text_is : text_in job ≡ (board_text h.f h.c h.m ++ count_text h.n) ++ nets_text (nets_in job)
  unfolding text_in text_of
  text_is = rw (well.f, well.c, well.m, well.n) (sym (append_assoc (board_text (f_in job) (c_in job) (m_in job)) (count_text (n_in job)) (nets_text (nets_in job))))

  pub text_long : length (text_in job) ≡ length (board_text h.f h.c h.m ++ count_text h.n) + length (nets_text (nets_in job))
  text_long = ap length text_is ∙ length-append (board_text h.f h.c h.m ++ count_text h.n) (nets_text (nets_in job))

-- No text of a job is longer.
pub text_most : (job : List ℕ) → job_verdict job ≡ Ok tt → length (text_in job) ≤ most_text
text_most job done =
    let well = passes job done in let r = well.ranged in
    let long = right_long job (head_in job) well in
    let line : (i : ℕ) → i < n_in job → length (net_line (first_of (nets_in job) i) (second_of (nets_in job) i)) ≤ 8 = λ i l.
    let most = line_most job (head_in job) well i _ _ l (nets_first job long i l) (nets_second job long i l) in
    omega (arith, most.0, most.1, line_long (first_of (nets_in job) i) (second_of (nets_in job) i)) in
    omega (
      arith,
      text_long job (head_in job) well,
      head_text_long (f_in job) (c_in job) (m_in job) (n_in job),
      nets_most 8 (n_in job) (nets_in job) (nets_length job long) line,
      decimal_short 2 (f_in job) (omega (arith, r.f_high)),
      decimal_short 2 (c_in job) (omega (arith, r.c_high)),
      decimal_short 1 (m_in job) (omega (arith, r.m_high)),
      decimal_short 3 (n_in job) (omega (arith, r.n_high)),
      r.n_high,
    )
