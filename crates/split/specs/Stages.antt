-- The stages of a split: the other ends, the nets directed, the nets labelled.
use Rattle.std.specs.Prelude.{◌≡◌, List, ◌≢◌, ℕ, ◌+◌, ◌≤◌, ◌<◌, length, get_or}
use Rattle.laws.specs.Sum.{sum}
use Rattle.laws.specs.Row.{at}
use Rattle.laws.specs.Matching.{is}
use Rattle.scratch.specs.Scratch.{most_nets}
use Rattle.pair.specs.Pair.{fpga_count, count, Near, ItemsIn}
use Rattle.split.specs.Split.{stands, first_end, second_end, SameEnds}

-- the other end of the same net, for the first i nets
pub record Flipped (f : List ℕ) (k i : ℕ) : Type 0 where
  pub long : length f ≡ k + k
  pub low : (j : ℕ) → j < i → get_or f j 0 ≡ k + j
  pub high : (j : ℕ) → j < i → get_or f (k + j) 0 ≡ j

-- of the first i nets those with the label 1 have their ends swapped
pub record Directed (ends₀ ends labels : List ℕ) (k i : ℕ) : Type 0 where
  pub long : length ends ≡ length ends₀
  pub turned : (e : ℕ) → e < i → at labels e ≡ 1 → (first_end ends e ≡ second_end ends₀ k e) × (second_end ends k e ≡ first_end ends₀ e)
  pub still : (e : ℕ) → e < k → (e < i → at labels e ≢ 1) → (first_end ends e ≡ first_end ends₀ e) × (second_end ends k e ≡ second_end ends₀ k e)

-- the ends of k nets, each at an FPGA, and as much room for their mates, the other ends and the labels
pub record EndsIn (ends mates others labels : List ℕ) (k : ℕ) : Type 0 where
  pub ends_long : length ends ≡ k + k
  pub mates_long : length mates ≡ k + k
  pub others_long : length others ≡ k + k
  pub labels_long : length labels ≡ k + k
  pub small : k ≤ most_nets
  pub known : (i : ℕ) → i < k + k → at ends i < fpga_count

-- a net now leaves its first end and enters its second: at each FPGA as many leave as enter, but for one
pub record Oriented (ends₀ ends : List ℕ) (k : ℕ) : Type 0 where
  pub same_ends : (e : ℕ) → e < k → SameEnds ends₀ ends k e
  pub fair : (v : ℕ) → v < fpga_count → Near (sum (stands (first_end ends) v) k) (sum (stands (second_end ends k) v) k)

-- an even number of nets, each from its first end to its second, and as much room for two pairings and the labels
pub record DirectedNets (first second out into labels : List ℕ) : Type 0 where
  pub leaving : ItemsIn first out
  pub entering : ItemsIn second into
  pub second_long : length second ≡ length first
  pub labels_long : length labels ≡ length first

-- the labels halve the nets, what leaves each FPGA, and what enters it
pub record Coloured (first second labels : List ℕ) : Type 0 where
  pub binary : (e : ℕ) → e < length first → at labels e ≤ 1
  pub level : sum (is (at labels) 0) (length first) ≡ sum (is (at labels) 1) (length first)
  pub out : (v : ℕ) → v < fpga_count → Near (count (at first) (at labels) v 0 (length first)) (count (at first) (at labels) v 1 (length first))
  pub into : (v : ℕ) → v < fpga_count → Near (count (at second) (at labels) v 0 (length first)) (count (at second) (at labels) v 1 (length first))
