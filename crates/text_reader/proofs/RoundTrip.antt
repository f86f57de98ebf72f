-- Text and job turn into each other without loss; each meaning has a single text; and the reader's answer is determined.
-- Assumes nothing.
use mathlib.Core.Path.{◌≡◌, refl, sym, ap, ◌∙◌}
use mathlib.Core.Logic.{dite}
use mathlib.Core.List.{List}
use Prim.Native.Nat.{ℕ, ◌+◌, ◌*◌, ◌≤◌, ◌<◌}
use native.Mathlib.Decide.{dec_lt}
use native.Mathlib.Omega.{arith}
use lib.ListN.{length, get_or, take, drop, get_or-eq_default}
use lib.Seq.{take_all, take_at}
use Rattle.words.specs.Verdict.{Verdict, answer}
use Rattle.std.specs.Prelude.{Result, Ok, Err}
use Rattle.words.specs.declared.Refusal.{Refusal}
use Rattle.words.specs.Lent.{onto, room_after}
use Rattle.words.specs.Number.{word, numbers, AreBytes}
use Rattle.words.proofs.Bytes.{number_at, word_drop, length_numbers}
use Rattle.job.specs.Job.{f_at, c_at, m_at, n_at, nets_at, f_in, c_in, m_in, n_in, nets_in}
use Rattle.job.specs.Check.{job_verdict}
use Rattle.job.proofs.Passing.{passes}
use Rattle.job_writer.specs.Write.{written_length, write_verdict, job_of}
use Rattle.job_writer.proofs.Writing.{by_ends, wrote_ranges, wrote_nets, wrote_room}
use Rattle.job_writer.proofs.RoundTrip.{written_long, written_f, written_c, written_m, written_n, written_nets, reads_back, nets_length, is_written, writer_accepts}
use Rattle.form.specs.Form.{text_of, EndsOf, InForm, IsText}
use Rattle.form.specs.Breaks.{BreaksAs}
use Rattle.form.proofs.Once.{text_once, text_unbroken, breaks_once, cut_breaks}
use Rattle.form.proofs.Most.{form_most}
use Rattle.text_writer.specs.WriteText.{text_in}
use Rattle.text_reader.specs.ReadText.{read_verdict, ReadText}
use Rattle.text_reader.proofs.Stages.{all_done, read_ranges, read_nets, read_room}

-- ---- text to job to text

-- the text of the job that is read is the text
pub text_again : (f c m n : ℕ) (ends : List ℕ) → EndsOf n ends → text_in (job_of f c m n ends) ≡ text_of f c m n ends
unfolding text_in
text_again f c m n ends of =
    let enough : 2 * n ≤ length ends = omega (arith, of.long) in
    rw (written_f f c m n ends enough, written_c f c m n ends enough, written_m f c m n ends enough, written_n f c m n ends enough, written_nets f c m n ends enough, take_all (2 * n) ends (omega (arith, of.long)))

-- an answer that was given by a verdict, taken apart
by_long : (v : Verdict) (k long : ℕ) → Ok k ≡ answer v long → (v ≡ Ok tt) × (k ≡ long)
by_long (Ok _) k long e = (refl, cc)
by_long (Err r) k long e = cc

breaks_refused : (t : List ℕ) (v : Verdict) (k long : ℕ) → BreaksAs t v → Ok k ≡ answer v long → ⊥
breaks_refused t v k long (BreaksAs.breaks j p none e) h = cc
breaks_refused t v k long (BreaksAs.follows j p is l e) h = cc

-- a job that was read passes the check, as the writer's does
module _ (f c m n : ℕ) (ends : List ℕ) (room : ℕ) (of : EndsOf n ends) (done : read_verdict f c m n ends room ≡ Ok tt) where
  read_accepted : write_verdict f c m n ends room ≡ Ok tt
  read_accepted =
      by_ends f c m n ends room (read_ranges f c m n ends room done) (omega (arith, of.long)) (read_room f c m n ends room done)
      ∙ read_nets f c m n ends room done

  read_passes : job_verdict (job_of f c m n ends) ≡ Ok tt
  read_passes = (reads_back f c m n ends room read_accepted).passes

-- Text to job to text: what stands in the room then is a job, and its text is the text that was read.
module _ (t room new : List ℕ) (k : ℕ) where
  pub read_then_written : ReadText t room new (Ok k) → (job_verdict (take k new) ≡ Ok tt) × (text_in (take k new) ≡ t)
  read_then_written (ReadText.broken v breaks e same) = absurd (breaks_refused t v k 0 breaks e)
  read_then_written (ReadText.whole f c m n ends form is e wrote) =
      let of = form.nets in
      let v = by_long (read_verdict f c m n ends (length room)) k (written_length n) e in
      let job = job_of f c m n ends in
      let front : take k new ≡ job =
      ap (take k) (rw v.0 at wrote) ∙ take_at job (drop (length job) room) k (written_long f c m n ends (omega (arith, of.long)) ∙ sym v.1) in
      rw front (read_passes f c m n ends (length room) of v.0, text_again f c m n ends of ∙ sym is)

-- ---- job to text to job

-- the numbers of a file of bytes
byte_small : (s : List ℕ) → AreBytes s → (i : ℕ) → get_or s i 0 < 256
byte_small s small i = dite (dec_lt i (length s)) (small i) (λ g. rw (get_or-eq_default s 0 {n = i} (omega arith)) (omega arith))

word_small : (s : List ℕ) → AreBytes s → (i : ℕ) → word s i < 65536
unfolding word
word_small s small i = omega (arith, byte_small s small i, byte_small s small (i + 1))

module _ (job : List ℕ) (small : AreBytes job) (done : job_verdict job ≡ Ok tt) where
  ends_small : (i : ℕ) → get_or (nets_in job) i 0 < 65536
  ends_small i =
      let rest = drop (nets_at job) job in
      dite (dec_lt (2 * i + 1) (length rest))
      (λ l. rw (number_at rest i l, word_drop (nets_at job) job (2 * i)) (word_small job small (nets_at job + 2 * i)))
      (λ g. rw (get_or-eq_default (numbers rest) 0 {n = i} (omega (arith, length_numbers rest))) (omega arith))

  text_in_form : InForm (f_in job) (c_in job) (m_in job) (n_in job) (nets_in job)
  text_in_form =
      record {
        f_small = word_small job small f_at;
        c_small = word_small job small c_at;
        m_small = word_small job small m_at;
        n_small = word_small job small n_at;
        nets = record { long = nets_length job (passes job done).long; small = ends_small };
      }

  text_is_text : IsText (text_in job)
  unfolding text_in
  text_is_text = record { f = f_in job; c = c_in job; m = m_in job; n = n_in job; ends = nets_in job; in_form = text_in_form; is = refl }

  -- the check that it passed is the reader's
  read_done : (room : ℕ) → length job ≤ room → read_verdict (f_in job) (c_in job) (m_in job) (n_in job) (nets_in job) room ≡ Ok tt
  read_done room h =
      let accepts = writer_accepts job done room h in
      all_done _ _ _ _ (nets_in job) room (wrote_ranges _ _ _ _ (nets_in job) room accepts) (wrote_nets _ _ _ _ (nets_in job) room accepts) (wrote_room _ _ _ _ (nets_in job) room accepts)

  pub written_then_read : (room new : List ℕ) (r : Result ℕ Refusal) → length job ≤ length room → ReadText (text_in job) room new r → (r ≡ Ok (length job)) × (new ≡ onto job room)
  unfolding text_in
  written_then_read room new r h (ReadText.broken v breaks e same) = absurd (text_unbroken (text_in job) v text_is_text breaks)
  written_then_read room new r h (ReadText.whole f c m n ends form is e wrote) =
      let once = text_once _ _ _ _ f c m n (nets_in job) ends text_in_form form is in
      let verdict : read_verdict f c m n ends (length room) ≡ Ok tt = rw (once.0, once.1, once.2, once.3, once.4) at (read_done (length room) h) in
      let job_is : job ≡ job_of f c m n ends = is_written job done small ∙ rw (once.0, once.1, once.2, once.3, once.4) in
      let long : written_length n ≡ length job = sym (ap length job_is ∙ written_long f c m n ends (omega (arith, form.nets.long))) in (
        e ∙ ap (λ (v : Verdict). answer v (written_length n)) verdict ∙ ap (λ (k : ℕ). Ok k) long,
        wrote ∙ ap (λ (v : Verdict). room_after v (job_of f c m n ends) room) verdict ∙ ap (λ (j : List ℕ). onto j room) (sym job_is),
      )

-- ---- each meaning has a single text

-- two texts that give one job are one text
pub one_text : (t t' room room' new new' : List ℕ) (k k' : ℕ) → ReadText t room new (Ok k) → ReadText t' room' new' (Ok k') → take k new ≡ take k' new' → t ≡ t'
one_text t t' room room' new new' k k' p q e = sym (read_then_written t room new k p).1 ∙ ap text_in e ∙ (read_then_written t' room' new' k' q).1

-- ---- the answer and the room are determined

module _ (t room new new' : List ℕ) (r r' : Result ℕ Refusal) where
  pub one_answer : ReadText t room new r → ReadText t room new' r' → (r ≡ r') × (new ≡ new')
  one_answer (ReadText.broken v p e same) (ReadText.broken w q e' same') = (e ∙ ap (λ (x : Verdict). answer x 0) (breaks_once t v w p q) ∙ sym e', same ∙ sym same')
  one_answer (ReadText.broken v p e same) (ReadText.whole f c m n ends form is e' wrote) = absurd (text_unbroken t v (record { f = f; c = c; m = m; n = n; ends = ends; in_form = form; is = is }) p)
  one_answer (ReadText.whole f c m n ends form is e wrote) (ReadText.broken v p e' same) = absurd (text_unbroken t v (record { f = f; c = c; m = m; n = n; ends = ends; in_form = form; is = is }) p)
  one_answer (ReadText.whole f c m n ends form is e wrote) (ReadText.whole f' c' m' n' ends' form' is' e' wrote') =
      let once = text_once f c m n f' c' m' n' ends ends' form form' (sym is ∙ is') in
      (rw (once.0, once.1, once.2, once.3, once.4) at e ∙ sym e', rw (once.0, once.1, once.2, once.3, once.4) at wrote ∙ sym wrote')

-- ---- a text too long for the form

-- its answer is that of its first 786,458 bytes
pub cut_answer : (t room new : List ℕ) (r : Result ℕ Refusal) → 786457 < length t → ReadText t room new r → ReadText (take 786458 t) room new r
cut_answer t room new r long (ReadText.broken v p e same) = ReadText.broken v (cut_breaks t long v p) e same
cut_answer t room new r long (ReadText.whole f c m n ends form is e wrote) = absurd (omega (arith, form_most t (record { f = f; c = c; m = m; n = n; ends = ends; in_form = form; is = is })))
