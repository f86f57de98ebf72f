-- The lowest FPGA with a load above m, its lowest crossbar A with a load above m, and its lowest crossbar B with a load below m.
use Rattle.std.specs.Prelude.{Bool, cond, ◌≢◌, ℕ, ◌≤◌, ◌<◌, ltb, Option, None, Some}
use Rattle.laws.specs.Lowest.{first_where, somewhere}
use Rattle.board.specs.Netlist.{Netlist}
use Rattle.board.specs.Board.{load}
use Rattle.search.specs.declared.Over.{Over}

-- FPGA v has a load above m on crossbar x
unfoldable pub over_at : Netlist → (ℕ → ℕ) → ℕ → ℕ → Bool
over_at J a v x = ltb (J.width v) (load J a v x)

-- FPGA v has a load below m on crossbar x
unfoldable pub room_at : Netlist → (ℕ → ℕ) → ℕ → ℕ → Bool
room_at J a v x = ltb (load J a v x) (J.width v)

-- FPGA v has a load above m on some crossbar
unfoldable pub over_fpga : Netlist → (ℕ → ℕ) → ℕ → Bool
over_fpga J a v = somewhere (over_at J a v) J.c

-- the lowest such FPGA; f if there is none
unfoldable pub fpga_of : Netlist → (ℕ → ℕ) → ℕ
fpga_of J a = first_where (over_fpga J a) J.f

-- its lowest crossbar with a load above m, and its lowest with a load below m; c if there is none
unfoldable pub crowded_of : Netlist → (ℕ → ℕ) → ℕ → ℕ
crowded_of J a v = first_where (over_at J a v) J.c

unfoldable pub room_of : Netlist → (ℕ → ℕ) → ℕ → ℕ
room_of J a v = first_where (room_at J a v) J.c

-- the lowest of n numbers, where it is said by a number that is n if there is none
unfoldable pub below : ℕ → ℕ → Option ℕ
below n k = cond (ltb k n) (Some k) None

-- the answer that names FPGA v and crossbars A and B
abbrev pub over : ℕ → ℕ → ℕ → Option Over
over v A B = Some (record { fpga = record { 0 = v }; crowded = record { 0 = A }; room = record { 0 = B } })

unfoldable pub search_of : Netlist → (ℕ → ℕ) → Option Over
search_of J a = cond (ltb (fpga_of J a) J.f) (over (fpga_of J a) (crowded_of J a (fpga_of J a)) (room_of J a (fpga_of J a))) None

-- ---- the same as statements

-- v is the lowest FPGA with a load above m, and A its lowest such crossbar
pub record LowestOver (J : Netlist) (a : ℕ → ℕ) (v A : ℕ) : Type 0 where
  pub fpga : v < J.f
  pub crossbar : A < J.c
  pub above : J.width v < load J a v A
  pub lower_fpgas : (u x : ℕ) → u < v → x < J.c → load J a u x ≤ J.width u
  pub lower_crossbars : (x : ℕ) → x < A → load J a v x ≤ J.width v

-- B is the lowest crossbar where FPGA v has a load below m
pub record LowestRoom (J : Netlist) (a : ℕ → ℕ) (v B : ℕ) : Type 0 where
  pub crossbar : B < J.c
  pub below : load J a v B < J.width v
  pub lower_crossbars : (x : ℕ) → x < B → J.width v ≤ load J a v x

-- the three that a round names
pub record Named (J : Netlist) (a : ℕ → ℕ) (v A B : ℕ) : Type 0 where
  pub over : LowestOver J a v A
  pub room : LowestRoom J a v B
  pub apart : A ≢ B
