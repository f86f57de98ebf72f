-- One crossbar more, for a search crossbar by crossbar.
-- Assumes nothing.
use mathlib.Core.Path.{◌≡◌, refl}
use Prim.Native.Nat.{ℕ, ◌+◌, min, ◌≤◌}
use Rattle.laws.specs.Lowest.{somewhere}
use Rattle.laws.proofs.FirstWhere.{first_where_at_most, first_row_none, first_row_more}
use Rattle.board.specs.Netlist.{Netlist}
use Rattle.search.specs.Search.{over_at, over_fpga, fpga_of}
use Rattle.search.specs.Columns.{fpga_below, fpga_at}

module _ (J : Netlist) (a : ℕ → ℕ) where
  -- the FPGA: none at first, then the lower of the two, and at the end the search's
  pub fpga_below_none : fpga_below J a 0 ≡ J.f
  unfolding fpga_below
  fpga_below_none = first_row_none (over_at J a) J.f

  pub fpga_below_more : (i : ℕ) → fpga_below J a (i + 1) ≡ min (fpga_below J a i) (fpga_at J a i)
  unfolding fpga_below fpga_at
  fpga_below_more = first_row_more (over_at J a) J.f

  pub fpga_below_all : fpga_below J a J.c ≡ fpga_of J a
  unfolding fpga_below fpga_of over_fpga
  fpga_below_all = refl

  pub fpga_below_at_most : (i : ℕ) → fpga_below J a i ≤ J.f
  unfolding fpga_below
  fpga_below_at_most i = first_where_at_most (λ v. somewhere (over_at J a v) i) J.f
