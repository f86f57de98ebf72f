-- Reading: net i of a job, and the section of its nets.
use Rattle.std.specs.Prelude.{Bool, true, false, List, ℕ, ◌+◌, ◌*◌, ltb, leb, length, Option, None, Some, Result, Ok, Err}
use Rattle.words.specs.declared.Fpga.{Fpga}
use Rattle.words.specs.declared.Refusal.{Refusal}
use Rattle.job.specs.declared.Head.{Head}
use Rattle.job.specs.Job.{nets_at, first_at, first_in, second_in}

-- a net's two FPGAs
abbrev pub NetEnds : Type 0
NetEnds = Fpga × Fpga

abbrev pub net_if : Bool → Option NetEnds → Option NetEnds
net_if true ends = ends
net_if false ends = None

-- the two FPGAs of net i, of n; none at or above n, and none whose bytes are not there. Whether n is the job's own is not asked: a caller
-- that has n from `numbers_of` has net i of the job
unfoldable pub net_at : List ℕ → ℕ → ℕ → Option NetEnds
net_at job n i =
    net_if (ltb i n)
    (net_if (leb (first_at (nets_at job) (i + 1)) (length job))
    (Some (record { 0 = first_in job i }, record { 0 = second_in job i })))

-- the net section by the check's answer: its first byte and its length; of a refused job the empty start
abbrev pub section_from : Result Head Refusal → ℕ
section_from (Ok h) = h.start
section_from (Err r) = 0

abbrev pub section_long : Result Head Refusal → ℕ
section_long (Ok h) = 4 * h.n
section_long (Err r) = 0
