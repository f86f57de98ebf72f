-- The search as far as it has come crossbar by crossbar, before crossbar i.
use Rattle.std.specs.Prelude.{ℕ}
use Rattle.laws.specs.Lowest.{first_where, somewhere}
use Rattle.board.specs.Netlist.{Netlist}
use Rattle.search.specs.Search.{over_at}

-- the lowest FPGA with a load above m on a crossbar below i; f if there is none
unfoldable pub fpga_below : Netlist → (ℕ → ℕ) → ℕ → ℕ
fpga_below J a i = first_where (λ v. somewhere (over_at J a v) i) J.f

-- the lowest FPGA with a load above m on crossbar i; f if there is none
unfoldable pub fpga_at : Netlist → (ℕ → ℕ) → ℕ → ℕ
fpga_at J a i = first_where (λ v. over_at J a v i) J.f
