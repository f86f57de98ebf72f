-- Files read back as written, and a written file is the only one with its meaning.
-- Assumes nothing.
use mathlib.Core.Path.{◌≡◌, ap, sym, ◌∙◌}
use mathlib.Core.List.{List, ◌∷◌}
use Prim.Native.Nat.{ℕ, suc, ◌+◌, ◌*◌, ◌≤◌, ◌<◌}
use native.Mathlib.Omega.{arith}
use lib.ListN.{length, get_or, take, drop, length-drop}
use lib.Seq.{length-take-le, get_or-take, drop-drop, take_all}
use Rattle.std.specs.Prelude.{Ok}
use Rattle.words.specs.Number.{word, bytes, numbers, AreBytes}
use Rattle.words.proofs.Order.{first_same}
use Rattle.words.proofs.Bytes.{length_bytes, word_bytes, numbers_bytes, bytes_numbers, number_at, numbers_first, word_drop, length_numbers}
use Rattle.job.specs.Job.{head_long, nets_at, job_length, f_in, c_in, m_in, n_in, first_in, second_in, nets_in}
use Rattle.job.specs.Check.{nets_verdict, ranges_verdict, head_verdict, length_verdict, job_verdict}
use Rattle.job_writer.specs.Write.{first_of, second_of, written_length, write_verdict, job_of, Means}
use Rattle.job.proofs.Stages.{by_ranges, head_is_long, three, its_ranges, right_length, by_nets, its_head, its_nets}
use Rattle.job.proofs.Passing.{passes}
use Rattle.job_writer.proofs.Writing.{by_ends, wrote_ranges, wrote_enough, wrote_nets}

nets_same : (f start : ℕ) (a b p q : ℕ → ℕ) (n : ℕ) → ((i : ℕ) → i < n → a i ≡ p i) → ((i : ℕ) → i < n → b i ≡ q i)
    → nets_verdict f start a b n ≡ nets_verdict f start p q n
unfolding nets_verdict
nets_same f start a b p q n e g = first_same _ _ n (λ i l. rw (e i l, g i l))

-- what the writer writes reads back: the four numbers, the nets, and done
module _ (f c m n : ℕ) (ends : List ℕ) (enough : 2 * n ≤ length ends) where
  nets_long : length (take (2 * n) ends) ≡ 2 * n
  nets_long = length-take-le (2 * n) ends enough

  pub written_long : length (job_of f c m n ends) ≡ written_length n
  unfolding job_of
  written_long = omega (arith, nets_long, length_bytes (3 ∷ f ∷ c ∷ m ∷ n ∷ take (2 * n) ends))

  pub written_count : word (job_of f c m n ends) 0 ≡ 3
  unfolding job_of
  written_count = word_bytes (3 ∷ f ∷ c ∷ m ∷ n ∷ take (2 * n) ends) 0

  pub written_f : f_in (job_of f c m n ends) ≡ f
  unfolding job_of
  written_f = word_bytes (3 ∷ f ∷ c ∷ m ∷ n ∷ take (2 * n) ends) 1

  pub written_c : c_in (job_of f c m n ends) ≡ c
  unfolding job_of
  written_c = word_bytes (3 ∷ f ∷ c ∷ m ∷ n ∷ take (2 * n) ends) 2

  pub written_m : m_in (job_of f c m n ends) ≡ m
  unfolding job_of
  written_m = word_bytes (3 ∷ f ∷ c ∷ m ∷ n ∷ take (2 * n) ends) 3

  pub written_n : n_in (job_of f c m n ends) ≡ n
  unfolding job_of
  written_n = word_bytes (3 ∷ f ∷ c ∷ m ∷ n ∷ take (2 * n) ends) 4

  pub written_nets : nets_in (job_of f c m n ends) ≡ take (2 * n) ends
  unfolding job_of nets_at
  written_nets = numbers_bytes (take (2 * n) ends)

  -- the number at place k of the net list
  place : (k at : ℕ) → at ≡ 2 * suc (suc (suc (suc (suc k)))) → k < 2 * n → word (job_of f c m n ends) at ≡ get_or ends k 0
  unfolding job_of
  place k at e l =
      ap (word (bytes (3 ∷ f ∷ c ∷ m ∷ n ∷ take (2 * n) ends))) e
      ∙ word_bytes (3 ∷ f ∷ c ∷ m ∷ n ∷ take (2 * n) ends) (suc (suc (suc (suc (suc k)))))
      ∙ get_or-take (2 * n) ends k 0 l

  pub written_first : (i : ℕ) → i < n → first_in (job_of f c m n ends) i ≡ first_of ends i
  unfolding nets_at
  written_first i l = place (2 * i) _ (omega arith) (omega arith)

  pub written_second : (i : ℕ) → i < n → second_in (job_of f c m n ends) i ≡ second_of ends i
  unfolding nets_at
  written_second i l = place (2 * i + 1) _ (omega arith) (omega arith)

  -- the stages of the check, on what was written
  written_head : ranges_verdict f c m n ≡ Ok tt → head_verdict (job_of f c m n ends) ≡ Ok tt
  written_head ranges = by_ranges _ (omega (arith, written_long)) written_count ∙ rw (written_f, written_c, written_m, written_n) ranges

  written_end : length_verdict (job_of f c m n ends) ≡ Ok tt
  unfolding nets_at
  written_end = right_length _ (omega (arith, written_long, written_n))

  written_passes : (room : ℕ) → write_verdict f c m n ends room ≡ Ok tt → job_verdict (job_of f c m n ends) ≡ Ok tt
  unfolding nets_at
  written_passes room done =
      by_nets _ (written_head (wrote_ranges f c m n ends room done)) written_end
      ∙ rw (written_f, written_n) (nets_same f head_long _ _ _ _ n written_first written_second ∙ wrote_nets f c m n ends room done)

-- Files read back as written.
pub reads_back : (f c m n : ℕ) (ends : List ℕ) (room : ℕ) → write_verdict f c m n ends room ≡ Ok tt → Means (job_of f c m n ends) f c m n (take (2 * n) ends)
reads_back f c m n ends room done =
    let enough = wrote_enough f c m n ends room done in
    record {
      passes = written_passes f c m n ends enough room done;
      same_f = written_f f c m n ends enough;
      same_c = written_c f c m n ends enough;
      same_m = written_m f c m n ends enough;
      same_n = written_n f c m n ends enough;
      same_nets = written_nets f c m n ends enough;
    }

-- the five numbers in front of the nets
head_numbers : (job : List ℕ) → head_long ≤ length job → numbers job ≡ word job 0 ∷ f_in job ∷ c_in job ∷ m_in job ∷ n_in job ∷ nets_in job
unfolding nets_at
head_numbers job l =
    numbers_first job (omega arith)
    ∙ ap (λ (t : List ℕ). word job 0 ∷ t) (next 2 (omega arith)
    ∙ ap (λ (t : List ℕ). f_in job ∷ t) (next 4 (omega arith)
    ∙ ap (λ (t : List ℕ). c_in job ∷ t) (next 6 (omega arith)
    ∙ ap (λ (t : List ℕ). m_in job ∷ t) (next 8 (omega arith)))))
  where
    next : (k : ℕ) → k + 1 < length job → numbers (drop k job) ≡ word job k ∷ numbers (drop (k + 2) job)
    next k h =
        let z : k + 0 ≡ k = omega arith in
        numbers_first (drop k job) (simp length-drop (omega arith)) ∙ rw (word_drop, drop-drop, z)

-- the list of FPGA numbers of a job whose length is right
module _ (job : List ℕ) (long : length job ≡ job_length job) where
  pub nets_length : length (nets_in job) ≡ 2 * n_in job
  nets_length = length_numbers (drop (nets_at job) job) ∙ simp length-drop (omega (arith, long))

  net_number : (k at : ℕ) → k < 2 * n_in job → at ≡ nets_at job + 2 * k → get_or (nets_in job) k 0 ≡ word job at
  net_number k at l e =
      number_at (drop (nets_at job) job) k (simp length-drop (omega (arith, long))) ∙ word_drop (nets_at job) job (2 * k) ∙ ap (word job) (sym e)

  pub nets_first : (i : ℕ) → i < n_in job → first_of (nets_in job) i ≡ first_in job i
  nets_first i l = net_number (2 * i) _ (omega arith) (omega arith)

  pub nets_second : (i : ℕ) → i < n_in job → second_of (nets_in job) i ≡ second_in job i
  nets_second i l = net_number (2 * i + 1) _ (omega arith) (omega arith)

-- A job that passes the check is what the writer writes for what it reads as.
module _ (job : List ℕ) (done : job_verdict job ≡ Ok tt) where
  long : length job ≡ job_length job
  long = (passes job done).long

  pub is_written : AreBytes job → job ≡ job_of (f_in job) (c_in job) (m_in job) (n_in job) (nets_in job)
  unfolding job_of nets_at
  is_written small =
      sym (bytes_numbers job (omega (arith, long)) small)
      ∙ ap bytes (head_numbers job (head_is_long job (its_head job done)))
      ∙ rw (three job (its_head job done), take_all (2 * n_in job) (nets_in job) (omega (arith, nets_length job long)))

  pub writer_accepts : (room : ℕ) → length job ≤ room → write_verdict (f_in job) (c_in job) (m_in job) (n_in job) (nets_in job) room ≡ Ok tt
  unfolding nets_at
  writer_accepts room h =
      by_ends _ _ _ _ _ room (its_ranges job (its_head job done)) (omega (arith, nets_length job long)) (omega (arith, long))
      ∙ nets_same (f_in job) head_long _ _ _ _ (n_in job) (nets_first job long) (nets_second job long)
      ∙ its_nets job done

-- A written file is the only one with its meaning.
pub only_one : (job : List ℕ) (f c m n : ℕ) (ends : List ℕ) → AreBytes job → Means job f c m n ends → job ≡ job_of f c m n ends
only_one job f c m n ends small e = is_written job e.passes small ∙ rw (e.same_f, e.same_c, e.same_m, e.same_n, e.same_nets)

pub same_meaning : (job₁ job₂ : List ℕ) (f c m n : ℕ) (ends : List ℕ) → AreBytes job₁ → AreBytes job₂ → Means job₁ f c m n ends → Means job₂ f c m n ends → job₁ ≡ job₂
same_meaning job₁ job₂ f c m n ends s₁ s₂ e₁ e₂ = only_one job₁ f c m n ends s₁ e₁ ∙ sym (only_one job₂ f c m n ends s₂ e₂)

-- A net turned round makes another job.
pub turned_is_another : (job₁ job₂ : List ℕ) (i : ℕ) → job_verdict job₁ ≡ Ok tt → i < n_in job₁ → first_in job₂ i ≡ second_in job₁ i → job₁ ≡ job₂ → ⊥
turned_is_another job₁ job₂ i done l t e = ((passes job₁ done).nets i l).apart (ap (λ (s : List ℕ). first_in s i) e ∙ t)
