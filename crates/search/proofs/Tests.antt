-- What the tests of the search say of the loads.
-- Assumes nothing.
use mathlib.Core.Path.{◌≡◌}
use mathlib.Core.Bool.{false}
use mathlib.Core.Logic.{◌↔◌}
use Prim.Native.Nat.{ℕ, ◌≤◌, ◌<◌}
use borrow.Author.Tests.{le-ltb, ltb-false}
use Rattle.laws.specs.Test.{Says}
use Rattle.laws.proofs.Test.{ltb_says}
use Rattle.laws.proofs.FirstWhere.{somewhere_false}
use Rattle.board.specs.Netlist.{Netlist}
use Rattle.board.specs.Board.{load}
use Rattle.search.specs.Search.{over_at, room_at, over_fpga}

module _ (J : Netlist) (a : ℕ → ℕ) (v : ℕ) where
  pub over_says : (x : ℕ) → Says (over_at J a v x) (J.width v < load J a v x)
  unfolding over_at
  over_says x = ltb_says (J.width v) (load J a v x)

  pub over_not : (x : ℕ) → (over_at J a v x ≡ false) ↔ (load J a v x ≤ J.width v)
  unfolding over_at
  over_not x = (ltb-false (J.width v) (load J a v x), le-ltb (J.width v) (load J a v x))

  pub room_says : (x : ℕ) → Says (room_at J a v x) (load J a v x < J.width v)
  unfolding room_at
  room_says x = ltb_says (load J a v x) (J.width v)

  pub over_none : (over_fpga J a v ≡ false) ↔ ((x : ℕ) → x < J.c → load J a v x ≤ J.width v)
  unfolding over_fpga
  over_none = (
    λ e x l. (over_not x).0 ((somewhere_false (over_at J a v) J.c).0 e x l),
    λ h. (somewhere_false (over_at J a v) J.c).1 (λ x l. (over_not x).1 (h x l)),
  )
