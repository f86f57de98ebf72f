-- Degree, load, total, spread, excess; legal and balanced. An assignment is a function `a` from net to crossbar.
use Rattle.std.specs.Prelude.{◌≡◌, Bool, ℕ, ◌+◌, ◌-◌, ◌*◌, ◌%◌, ◌≤◌, ◌<◌, eqb, ltb}
use Rattle.laws.specs.Sum.{sum, when, greatest, least}
use Rattle.board.specs.Netlist.{Netlist}

-- the ends of net i at FPGA v: 0 or 1, since a net has two different ends
unfoldable pub ends_at : Netlist → ℕ → ℕ → ℕ
ends_at J v i = when (eqb (J.first i) v) 1 + when (eqb (J.second i) v) 1

-- Degree of an FPGA: how many nets end there.
unfoldable pub degree : Netlist → ℕ → ℕ
degree J v = sum (ends_at J v) J.n

-- Load of a pair (FPGA, crossbar): how many of its nets are on that crossbar.
unfoldable pub load : Netlist → (ℕ → ℕ) → ℕ → ℕ → ℕ
load J a v x = sum (λ i. when (eqb (a i) x) (ends_at J v i)) J.n

-- Total of a crossbar: nets on it.
unfoldable pub total : Netlist → (ℕ → ℕ) → ℕ → ℕ
total J a x = sum (λ i. when (eqb (a i) x) 1) J.n

-- Spread: greatest total minus least.
unfoldable pub spread : Netlist → (ℕ → ℕ) → ℕ
spread J a = greatest (total J a) J.c - least (total J a) J.c

-- Excess of an FPGA: the sum, over crossbars where its load is above m, of load minus m. (A difference below 0 is 0.)
unfoldable pub excess : Netlist → (ℕ → ℕ) → ℕ → ℕ
excess J a v = sum (λ x. load J a v x - J.width v) J.c

-- Total excess: the sum over FPGAs.
unfoldable pub total_excess : Netlist → (ℕ → ℕ) → ℕ
total_excess J a = sum (excess J a) J.f

-- crossbar x can be used
unfoldable pub usable : Netlist → ℕ → Bool
usable J x = ltb x J.c

-- every net has a crossbar that can be used
abbrev pub InRange : Netlist → (ℕ → ℕ) → Type 0
InRange J a = (i : ℕ) → i < J.n → a i < J.c

-- two assignments that agree on every net
abbrev pub Alike : Netlist → (ℕ → ℕ) → (ℕ → ℕ) → Type 0
Alike J a b = (i : ℕ) → i < J.n → a i ≡ b i

abbrev pub Legal : Netlist → (ℕ → ℕ) → Type 0
Legal J a = total_excess J a ≡ 0

abbrev pub Balanced : Netlist → (ℕ → ℕ) → Type 0
Balanced J a = spread J a ≤ 1

-- the deal: net i starts on crossbar i mod c
unfoldable pub deal : Netlist → ℕ → ℕ
deal J i = i % J.c

-- the limit of an FPGA: m times c
unfoldable pub limit : Netlist → ℕ → ℕ
limit J v = J.width v * J.c

-- no degree is above the limit
abbrev pub WithinLimits : Netlist → Type 0
WithinLimits J = (v : ℕ) → v < J.f → degree J v ≤ limit J v

-- what the job check has shown of a netlist
pub record Sound (J : Netlist) : Type 0 where
  pub some_crossbar : 0 < J.c
  pub even : (v : ℕ) → J.width v % 2 ≡ 0
  pub first_below : (i : ℕ) → i < J.n → J.first i < J.f
  pub second_below : (i : ℕ) → i < J.n → J.second i < J.f
  pub apart : (i : ℕ) → i < J.n → J.first i ≡ J.second i → ⊥
