-- What it is to pair items so that every labelling that alternates on the pairs splits the items at each FPGA evenly.
-- An item is a number below n: a net end, or a net. It stands at the FPGA `fpga k`.
use Rattle.std.specs.Prelude.{◌≡◌, List, ℕ, ◌+◌, ◌%◌, ◌≤◌, ◌<◌, eqb, length}
use Rattle.laws.specs.Sum.{sum, when}
use Rattle.laws.specs.Row.{at}
use Rattle.laws.specs.Matching.{is, Perfect, Alternates}
use Rattle.scratch.specs.Scratch.{region}

-- the 256 FPGAs of the largest board, and one more for a dummy net
abbrev pub fpga_count : ℕ
fpga_count = 257

-- 1 if item k stands at FPGA v and has the label b, else 0
unfoldable pub hit : (ℕ → ℕ) → (ℕ → ℕ) → ℕ → ℕ → ℕ → ℕ
hit fpga x v b k = when (eqb (fpga k) v) (when (eqb (x k) b) 1)

-- how many of the items below n stand at FPGA v and have the label b
abbrev pub count : (ℕ → ℕ) → (ℕ → ℕ) → ℕ → ℕ → ℕ → ℕ
count fpga x v b n = sum (hit fpga x v b) n

-- a and b differ by 1 at most
abbrev pub Near : ℕ → ℕ → Type 0
Near a b = (a ≤ b + 1) × (b ≤ a + 1)

-- n items, an even number of them, each at an FPGA
pub record Items (fpga : ℕ → ℕ) (n : ℕ) : Type 0 where
  pub small : n ≤ region
  pub even : n % 2 ≡ 0
  pub known : (k : ℕ) → k < n → fpga k < fpga_count

-- fpgas has their FPGAs, and there is room for as many mates
pub record ItemsIn (fpgas mates : List ℕ) : Type 0 where
  pub items : Items (at fpgas) (length fpgas)
  pub long : length mates ≡ length fpgas

-- m pairs the items, and with them those at each FPGA and all of them are split evenly
pub record Paired (fpga : ℕ → ℕ) (n : ℕ) (m : List ℕ) : Type 0 where
  pub perfect : Perfect n (at m)
  pub fair : (x : ℕ → ℕ) → Alternates n (at m) x → (v : ℕ) → v < fpga_count → Near (count fpga x v 0 n) (count fpga x v 1 n)
  pub level : (x : ℕ → ℕ) → Alternates n (at m) x → sum (is x 0) n ≡ sum (is x 1) n

-- the mates pair the items that stand at fpgas
pub record Pairing (fpgas mates : List ℕ) : Type 0 where
  pub paired : Paired (at fpgas) (length fpgas) mates
  pub long : length mates ≡ length fpgas
