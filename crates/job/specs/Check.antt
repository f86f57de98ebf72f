-- The job check: done, or a refusal (1 to 10, 27), in the order of document 01, with 27 in document 02's place.
use Rattle.words.specs.declared.Reason.TheVariants as reason
use Rattle.std.specs.Prelude.{Bool, not, ◌||◌, List, ◌≡◌, ℕ, ◌≤◌, ◌<◌, ltb, leb, eqb, length, Result}
use Rattle.words.specs.Verdict.{Verdict, answer, refuse_if, ◌then◌, first_refusal, at_byte, at_end, of_length}
use Rattle.words.specs.Number.{word}
use Rattle.words.specs.declared.Refusal.{Refusal}
use Rattle.job.specs.declared.Head.{Head}
use Rattle.job.specs.Job.{f_at, c_at, m_at, n_at, head_long, nets_at, job_length, first_at, second_at, f_in, c_in, m_in, n_in, usable_width, head_in, first_in, second_in}

-- ---- the stages

-- too short for a head
unfoldable pub short_verdict : List ℕ → Verdict
short_verdict job = refuse_if (ltb (length job) head_long) reason.JobShort (of_length (length job))

-- the board's count
unfoldable pub count_verdict : List ℕ → Verdict
count_verdict job = refuse_if (not (eqb (word job 0) 3)) reason.BoardCount (at_byte 0)

-- x is below the smallest or above the largest
unfoldable pub outside : ℕ → ℕ → ℕ → Bool
outside smallest largest x = ltb x smallest || ltb largest x

-- the four numbers, each in its range
unfoldable pub ranges_verdict : ℕ → ℕ → ℕ → ℕ → Verdict
ranges_verdict f c m n =
    refuse_if (outside 1 256 f) reason.FpgaCount (at_byte f_at) then
    refuse_if (outside 1 128 c) reason.CrossbarCount (at_byte c_at) then
    refuse_if (outside 1 64 m) reason.WireCount (at_byte m_at) then
    refuse_if (eqb m 1) reason.LoneWire (at_byte m_at) then
    refuse_if (ltb 4096 n) reason.NetCount (at_byte n_at)

-- the head: 1 to 7
unfoldable pub head_verdict : List ℕ → Verdict
head_verdict job = short_verdict job then count_verdict job then ranges_verdict (f_in job) (c_in job) (m_in job) (n_in job)

-- length against n: 1 and 8
unfoldable pub length_verdict : List ℕ → Verdict
length_verdict job =
    refuse_if (ltb (length job) (job_length job)) reason.JobShort (of_length (length job)) then
    refuse_if (ltb (job_length job) (length job)) reason.JobLong (at_byte (job_length job))

-- net i, between FPGAs v and w, where the nets start at byte `start`: the first number at or above f, then the second, then the same number twice
unfoldable pub net_verdict : ℕ → ℕ → ℕ → ℕ → ℕ → Verdict
net_verdict f start i v w =
    refuse_if (leb f v) reason.FirstEnd (at_end i (first_at start i)) then
    refuse_if (leb f w) reason.SecondEnd (at_end i (second_at start i)) then
    refuse_if (eqb v w) reason.SameEnd (at_end i (second_at start i))

-- the n nets in order
unfoldable pub nets_verdict : ℕ → ℕ → (ℕ → ℕ) → (ℕ → ℕ) → ℕ → Verdict
nets_verdict f start first second n = first_refusal (λ i. net_verdict f start i (first i) (second i)) n

-- ---- the check

unfoldable pub job_verdict : List ℕ → Verdict
job_verdict job = head_verdict job then length_verdict job then nets_verdict (f_in job) (nets_at job) (first_in job) (second_in job) (n_in job)

-- the same as an answer, with the numbers of the job's head
abbrev pub checked_of : List ℕ → Result Head Refusal
checked_of job = answer (job_verdict job) (head_in job)

-- ---- what a check that is done has shown

pub record Ranged (f c m n : ℕ) : Type 0 where
  pub f_low : 1 ≤ f
  pub f_high : f ≤ 256
  pub c_low : 1 ≤ c
  pub c_high : c ≤ 128
  pub m_low : 2 ≤ m
  pub m_high : m ≤ 64
  pub n_high : n ≤ 4096

-- a net between FPGAs v and w
pub record Joins (f v w : ℕ) : Type 0 where
  pub first_below : v < f
  pub second_below : w < f
  pub apart : v ≡ w → ⊥

-- a job that passed the check, and the numbers of its head
pub record WellFormed (job : List ℕ) (h : Head) : Type 0 where
  pub f : h.f ≡ f_in job
  pub c : h.c ≡ c_in job
  pub m : h.m ≡ m_in job
  pub width : h.width ≡ usable_width (m_in job)
  pub n : h.n ≡ n_in job
  pub start : h.start ≡ nets_at job
  pub ranged : Ranged h.f h.c h.m h.n
  pub long : length job ≡ first_at h.start h.n
  pub nets : (i : ℕ) → i < h.n → Joins h.f (first_in job i) (second_in job i)
