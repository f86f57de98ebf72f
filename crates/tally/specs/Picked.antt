-- Counts of those nets that a closure picks.
use Rattle.std.specs.Prelude.{Bool, ◌≡◌, ℕ, ◌<◌, eqb}
use Rattle.laws.specs.Sum.{sum, when}
use Rattle.board.specs.Netlist.{Netlist}
use Rattle.board.specs.Board.{ends_at}

-- the closure picks of n nets those that the test picks; those that count 1 and not 0
abbrev pub PicksTrue : (ℕ → Bool → Type 0) → (ℕ → Bool) → ℕ → Type 0
PicksTrue post t n = (i : ℕ) (b : Bool) → i < n → post i b → b ≡ t i

abbrev pub PicksOnes : (ℕ → Bool → Type 0) → (ℕ → ℕ) → ℕ → Type 0
PicksOnes post g n = (i : ℕ) (b : Bool) → i < n → post i b → g i ≡ when b 1

-- the ends at FPGA v of those that the test picks
abbrev pub ends_picked : Netlist → (ℕ → Bool) → ℕ → ℕ
ends_picked J t v = sum (λ i. when (t i) (ends_at J v i)) J.n

-- the nets on crossbar x, of those of n that count 1
abbrev pub nets_picked : (ℕ → ℕ) → (ℕ → ℕ) → ℕ → ℕ → ℕ
nets_picked a g n x = sum (λ i. when (eqb (a i) x) (g i)) n
