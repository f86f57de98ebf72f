-- The search goes by the loads alone; so on assignments that agree on every net it answers the same.
-- Assumes nothing.
use mathlib.Core.Path.{◌≡◌, ap}
use mathlib.Core.Logic.{dite}
use Prim.Native.Nat.{ℕ, ◌≤◌, ◌<◌}
use native.Mathlib.Decide.{dec_lt}
use native.Mathlib.Omega.{arith}
use lib.Dec.{ltb}
use borrow.Author.Tests.{le-ltb}
use Rattle.laws.proofs.FirstWhere.{first_where_same}
use Rattle.board.specs.Netlist.{Netlist}
use Rattle.board.specs.Board.{load, Alike}
use Rattle.board.proofs.Alike.{load_alike}
use Rattle.search.specs.Search.{over_at, room_at, over_fpga, fpga_of, crowded_of, room_of, search_of}

module _ (J : Netlist) (a b : ℕ → ℕ) (e : (v x : ℕ) → v < J.f → x < J.c → load J a v x ≡ load J b v x) where
  same_crowded : (v : ℕ) → v < J.f → crowded_of J a v ≡ crowded_of J b v
  unfolding crowded_of over_at
  same_crowded v lv = first_where_same (over_at J a v) (over_at J b v) J.c (λ x lx. ap (λ (k : ℕ). ltb (J.width v) k) (e v x lv lx))

  same_room : (v : ℕ) → v < J.f → room_of J a v ≡ room_of J b v
  unfolding room_of room_at
  same_room v lv = first_where_same (room_at J a v) (room_at J b v) J.c (λ x lx. ap (λ (k : ℕ). ltb k (J.width v)) (e v x lv lx))

  same_fpga : fpga_of J a ≡ fpga_of J b
  unfolding fpga_of over_fpga crowded_of
  same_fpga = first_where_same (over_fpga J a) (over_fpga J b) J.f (λ v lv. ap (λ (k : ℕ). ltb k J.c) (same_crowded v lv))

  pub search_by_loads : search_of J a ≡ search_of J b
  unfolding search_of
  search_by_loads =
      dite (dec_lt (fpga_of J b) J.f) (λ l. rw (same_fpga, same_crowded (fpga_of J b) l, same_room (fpga_of J b) l))
      (λ nl. let q : J.f ≤ fpga_of J b = omega arith in rw (same_fpga, le-ltb (fpga_of J b) J.f q))

pub search_alike : (J : Netlist) (a b : ℕ → ℕ) → Alike J a b → search_of J a ≡ search_of J b
search_alike J a b e = search_by_loads J a b (λ v x lv lx. load_alike J a b e v x)
