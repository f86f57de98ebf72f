-- The sheet: the job's own bytes up to its nets, then n crossbar numbers in net order; count c, then c totals.
use Rattle.std.specs.Prelude.{List, ◌∷◌, ◌++◌, ℕ, ◌+◌, ◌*◌, take}
use Rattle.laws.specs.Row.{row}
use Rattle.words.specs.Number.{word, bytes}
use Rattle.board.specs.Board.{total}
use Rattle.job.specs.Job.{nets_at, c_in, n_in, job_in}

-- the byte of the totals' count and of the first total, and the length; the first crossbar number stands where the job's nets start
abbrev pub totals_count_at : List ℕ → ℕ
totals_count_at job = nets_at job + 2 * n_in job

abbrev pub totals_at : List ℕ → ℕ
totals_at job = totals_count_at job + 2

abbrev pub sheet_length : List ℕ → ℕ
sheet_length job = totals_at job + 2 * c_in job

-- what a sheet of this job says: the crossbar of net i; the total of crossbar x
abbrev pub crossbar_in : List ℕ → List ℕ → ℕ → ℕ
crossbar_in job sheet i = word sheet (nets_at job + 2 * i)

abbrev pub total_in : List ℕ → List ℕ → ℕ → ℕ
total_in job sheet x = word sheet (totals_at job + 2 * x)

-- its numbers behind the head for an assignment, and its bytes
abbrev pub sheet_numbers : List ℕ → (ℕ → ℕ) → List ℕ
sheet_numbers job a = row a (n_in job) ++ (c_in job ∷ row (total (job_in job) a) (c_in job))

unfoldable pub sheet_of : List ℕ → (ℕ → ℕ) → List ℕ
sheet_of job a = take (nets_at job) job ++ bytes (sheet_numbers job a)
