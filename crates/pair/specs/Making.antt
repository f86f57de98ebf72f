-- The states of the two loops that make a pairing.
-- `m` is the list of mates: an entry below n is the item's mate, and any other says that the item is free.
-- `p` holds the item that waits at each FPGA.
use Rattle.std.specs.Prelude.{◌≡◌, List, ◌≢◌, Option, Some, None, ℕ, ◌+◌, ◌*◌, ◌%◌, ◌≤◌, ◌<◌, ltb, leb, length, get_or, set, replicate}
use Rattle.laws.specs.Sum.{sum, when}
use Rattle.laws.specs.Row.{at}
use Rattle.laws.specs.Matching.{is}
use Rattle.scratch.specs.Scratch.{region}
use Rattle.pair.specs.Pair.{fpga_count, count, Items}

-- what stands for no mate
abbrev pub no_mate : ℕ
no_mate = 65535

-- i and j become mates
abbrev pub linked : List ℕ → ℕ → ℕ → List ℕ
linked m i j = set (set m i j) j i

-- 1 if item k is free, else 0
unfoldable pub free : ℕ → List ℕ → ℕ → ℕ
free n m k = when (leb n (get_or m k 0)) 1

-- 1 if item k has a mate and the label b, else 0
unfoldable pub done : ℕ → List ℕ → (ℕ → ℕ) → ℕ → ℕ → ℕ
done n m x b k = when (ltb (get_or m k 0) n) (is x b k)

-- the labels are 0 and 1
abbrev pub Lab : (ℕ → ℕ) → ℕ → Type 0
Lab x n = (k : ℕ) → k < n → x k ≤ 1

-- the labels differ in each pair that is made
abbrev pub Differing : (ℕ → ℕ) → ℕ → List ℕ → Type 0
Differing x n m = (k : ℕ) → k < n → get_or m k 0 < n → x k + x (get_or m k 0) ≡ 1

-- some items are paired; the number of free items is even; the paired items have as many labels 0 as 1
pub record Made (n : ℕ) (m : List ℕ) : Type 0 where
  pub long : length m ≡ n
  pub pairs : (k : ℕ) → k < n → get_or m k 0 < n → (get_or m k 0 ≢ k) × (get_or m (get_or m k 0) 0 ≡ k)
  pub even : sum (free n m) n % 2 ≡ 0
  pub level : (x : ℕ → ℕ) → Lab x n → Differing x n m → sum (done n m x 0) n ≡ sum (done n m x 1) n

-- the item that waits at FPGA v
abbrev pub waiter : List (Option ℕ) → ℕ → Option ℕ
waiter p v = get_or p v None

-- j is a free item
abbrev pub Waiting : ℕ → List ℕ → ℕ → Type 0
Waiting n m j = (j < n) × (n ≤ get_or m j 0)

-- j is a free item of the first i, at FPGA v
abbrev pub WaitingAt : (ℕ → ℕ) → ℕ → List ℕ → ℕ → ℕ → ℕ → Type 0
WaitingAt fpga n m i v j = (j < i) × (fpga j ≡ v) × (n ≤ get_or m j 0)

-- with q waiting at an FPGA, c0 items there of label 0 and c1 of label 1
abbrev pub Lean : (ℕ → ℕ) → Option ℕ → ℕ → ℕ → Type 0
Lean x None c0 c1 = c1 ≡ c0
Lean x (Some j) c0 c1 = c1 + 1 ≡ c0 + 2 * x j

-- the first i items are paired within their FPGAs, but for one at most of each FPGA, which waits there
pub record PairedUpTo (fpga : ℕ → ℕ) (n : ℕ) (m : List ℕ) (p : List (Option ℕ)) (i : ℕ) : Type 0 where
  pub made : Made n m
  pub wide : length p ≡ fpga_count
  pub waits : (v j : ℕ) → v < fpga_count → waiter p v ≡ Some j → WaitingAt fpga n m i v j
  pub seen : (k : ℕ) → k < i → n ≤ get_or m k 0 → waiter p (fpga k) ≡ Some k
  pub later : (k : ℕ) → k < n → i ≤ k → n ≤ get_or m k 0
  pub lean : (x : ℕ → ℕ) → Lab x n → Differing x n m → (v : ℕ) → v < fpga_count → Lean x (waiter p v) (count fpga x v 0 i) (count fpga x v 1 i)

-- the place for the mates is blank
pub record Blank (fpgas mates : List ℕ) : Type 0 where
  pub items : Items (at fpgas) (length fpgas)
  pub blank : mates ≡ replicate (length fpgas) no_mate

-- the free items wait in p, each once
pub record LeftWaiting (n : ℕ) (m : List ℕ) (p : List (Option ℕ)) : Type 0 where
  pub made : Made n m
  pub small : n ≤ region
  pub waits : (v j : ℕ) → v < fpga_count → waiter p v ≡ Some j → Waiting n m j
  pub once : (v w j : ℕ) → v < fpga_count → w < fpga_count → v < w → waiter p v ≡ Some j → waiter p w ≡ Some j → ⊥
  pub seen : (k : ℕ) → k < n → n ≤ get_or m k 0 → (v : ℕ) × (v < fpga_count) × (waiter p v ≡ Some k)

-- m' has the pairs of m, and pairs every item
pub record PairsAll (n : ℕ) (m m' : List ℕ) : Type 0 where
  pub made : Made n m'
  pub all : (k : ℕ) → k < n → get_or m' k 0 < n
  pub grows : (x : ℕ → ℕ) → Lab x n → Differing x n m' → Differing x n m
