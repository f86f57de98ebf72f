-- k nets, an even number of them, are halved, and so are the ends at each FPGA, as evenly as the rule of a round asks.
-- A net e has its ends at the FPGAs `first e` and `second e`, and the label 0 or 1: which of two crossbars it is put on.
use Rattle.std.specs.Prelude.{◌≡◌, List, ◌⊎◌, ℕ, ◌+◌, ◌*◌, ◌%◌, ◌≤◌, ◌<◌, eqb, length, get_or, drop}
use Rattle.laws.specs.Sum.{sum, when}
use Rattle.laws.specs.Matching.{is}
use Rattle.scratch.specs.Scratch.{most_nets, labels_from, scratch_long}
use Rattle.pair.specs.Pair.{fpga_count, count, Near}

-- 1 if item i stands at FPGA v, else 0
unfoldable pub stands : (ℕ → ℕ) → ℕ → ℕ → ℕ
stands fpga v i = when (eqb (fpga i) v) 1

-- how many ends of the k nets are at FPGA v
abbrev pub ends : (ℕ → ℕ) → (ℕ → ℕ) → ℕ → ℕ → ℕ
ends first second v k = sum (stands first v) k + sum (stands second v) k

-- how many of them are ends of nets with the label b: the load of v on that crossbar
abbrev pub load_on : (ℕ → ℕ) → (ℕ → ℕ) → (ℕ → ℕ) → ℕ → ℕ → ℕ → ℕ
load_on first second label v b k = count first label v b k + count second label v b k

-- n ends at an FPGA are shared by two crossbars: l on the one and r on the other
pub record Shared (n l r : ℕ) : Type 0 where
  pub all : l + r ≡ n
  pub near : (l ≤ r + 2) × (r ≤ l + 2)
  pub odd : n % 2 ≡ 1 → Near l r
  -- the number of ends that two crossbars of the even width 2 w just hold
  pub full : (w : ℕ) → n ≡ 4 * w → l ≡ r

-- the labels halve the nets, and the ends at each FPGA
pub record HalvesNets (first second label : ℕ → ℕ) (k : ℕ) : Type 0 where
  pub binary : (e : ℕ) → e < k → label e ≤ 1
  pub level : sum (is label 0) k ≡ sum (is label 1) k
  pub at_each_fpga : (v : ℕ) → v < fpga_count → Shared (ends first second v k) (load_on first second label v 0 k) (load_on first second label v 1 k)

-- where they stand in the scratch: the first ends at the front, the second ends behind them, the labels in a region of their own
abbrev pub first_end : List ℕ → ℕ → ℕ
first_end s e = get_or s e 0

abbrev pub second_end : List ℕ → ℕ → ℕ → ℕ
second_end s k e = get_or s (k + e) 0

abbrev pub label_of : List ℕ → ℕ → ℕ
label_of s e = get_or s (labels_from + e) 0

-- what is asked: an even number of nets, each end at an FPGA
pub record NetsIn (s : List ℕ) (k : ℕ) : Type 0 where
  pub long : scratch_long ≤ length s
  pub small : k ≤ most_nets
  pub even : k % 2 ≡ 0
  pub known : (i : ℕ) → i < k + k → get_or s i 0 < fpga_count

-- net e has the ends that it had, in this order or the other
abbrev pub SameEnds : List ℕ → List ℕ → ℕ → ℕ → Type 0
SameEnds s₀ s k e =
    ((first_end s e ≡ first_end s₀ e) × (second_end s k e ≡ second_end s₀ k e))
    ⊎ ((first_end s e ≡ second_end s₀ k e) × (second_end s k e ≡ first_end s₀ e))

-- s₀ has become s: the labels, by net number, halve the nets that s₀ had; room beyond the scratch's least length is as it was
pub record Halved (s₀ s : List ℕ) (k : ℕ) : Type 0 where
  pub long : length s ≡ length s₀
  pub beyond : drop scratch_long s ≡ drop scratch_long s₀
  pub same_ends : (e : ℕ) → e < k → SameEnds s₀ s k e
  pub halves : HalvesNets (first_end s₀) (second_end s₀ k) (label_of s) k
