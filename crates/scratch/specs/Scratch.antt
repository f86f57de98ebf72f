-- The map of the lent scratch, as src/lib.rt has it, and the scratch after an accepted call.
use Rattle.std.specs.Prelude.{List, ◌++◌, ℕ, ◌*◌, replicate, drop}

-- nets of the largest job
abbrev pub most_nets : ℕ
most_nets = 4096

-- numbers in a region: one for each net end
abbrev pub region : ℕ
region = 2 * most_nets

-- where the regions start: the FPGAs of the ends, the mates, the other ends, the labels
abbrev pub ends_from : ℕ
ends_from = 0

abbrev pub mates_from : ℕ
mates_from = region

abbrev pub flip_from : ℕ
flip_from = 2 * region

abbrev pub labels_from : ℕ
labels_from = 3 * region

-- the least length of the scratch
abbrev pub scratch_long : ℕ
scratch_long = 4 * region

-- the first n numbers are 0, and the others as they were
unfoldable pub cleared : ℕ → List ℕ → List ℕ
cleared n s = replicate n 0 ++ drop n s
