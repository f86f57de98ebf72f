-- The job writer: f, c, m, n and a list of FPGA numbers, two for each net, to a job in lent room.
use Rattle.std.specs.Prelude.{◌≡◌, List, [], ◌∷◌, ℕ, ◌+◌, ◌*◌, length, get_or, take, Ok}
use Rattle.words.specs.Verdict.{Verdict, too_short, ◌then◌}
use Rattle.words.specs.Number.{bytes}
use Rattle.job.specs.Job.{head_long, first_at, f_in, c_in, m_in, n_in, nets_in}
use Rattle.job.specs.Check.{ranges_verdict, nets_verdict, job_verdict}

-- the two FPGAs of net i in such a list
abbrev pub first_of : List ℕ → ℕ → ℕ
first_of ends i = get_or ends (2 * i) 0

abbrev pub second_of : List ℕ → ℕ → ℕ
second_of ends i = get_or ends (2 * i + 1) 0

-- the length of the job that is written
abbrev pub written_length : ℕ → ℕ
written_length n = first_at head_long n

-- refusals 3 to 7; 11 for too few numbers or too little room; then 9, 27 and 10 by net, at their places in the job that it would write
unfoldable pub write_verdict : ℕ → ℕ → ℕ → ℕ → List ℕ → ℕ → Verdict
write_verdict f c m n ends room_length =
    ranges_verdict f c m n then
    too_short (length ends) (2 * n) then
    too_short room_length (written_length n) then
    nets_verdict f head_long (first_of ends) (second_of ends) n

-- the head of the job that is written, and the job
abbrev pub head_of : ℕ → ℕ → ℕ → ℕ → List ℕ
head_of f c m n = bytes (3 ∷ f ∷ c ∷ m ∷ n ∷ [])

unfoldable pub job_of : ℕ → ℕ → ℕ → ℕ → List ℕ → List ℕ
job_of f c m n ends = bytes (3 ∷ f ∷ c ∷ m ∷ n ∷ take (2 * n) ends)

-- what a job file means: it passes the check, these are its numbers, and these the FPGAs of its nets
pub record Means (job : List ℕ) (f c m n : ℕ) (ends : List ℕ) : Type 0 where
  pub passes : job_verdict job ≡ Ok tt
  pub same_f : f_in job ≡ f
  pub same_c : c_in job ≡ c
  pub same_m : m_in job ≡ m
  pub same_n : n_in job ≡ n
  pub same_nets : nets_in job ≡ ends
