-- The deal gives each crossbar n / c nets, and one more to the first n mod c of them.
-- Assumes nothing.
use mathlib.Core.Path.{◌≡◌}
use Prim.Native.Nat.{ℕ, ◌+◌, ◌/◌, ◌%◌, ◌<◌}
use native.Mathlib.Nat.{mod-lt}
use native.Mathlib.Omega.{arith}
use lib.Dec.{ltb}
use Rattle.laws.specs.Sum.{when}
use Rattle.laws.proofs.Sum.{when_at_most}
use Rattle.laws.proofs.Remainder.{remainders}
use Rattle.board.specs.Netlist.{Netlist}
use Rattle.board.specs.Board.{total, deal, InRange, Balanced}
use Rattle.board.proofs.Spread.{near_balanced}

module _ (J : Netlist) (p : 0 < J.c) where
  pub deal_total : (x : ℕ) → x < J.c → total J (deal J) x ≡ J.n / J.c + when (ltb x (J.n % J.c)) 1
  unfolding total deal
  deal_total x l = remainders J.c x l J.n

  pub deal_in_range : InRange J (deal J)
  unfolding deal
  deal_in_range i l = mod-lt i p

  pub deal_balanced : Balanced J (deal J)
  deal_balanced =
      near_balanced J (deal J) (λ x y lx ly. omega (arith, deal_total x lx, deal_total y ly, when_at_most (ltb x (J.n % J.c)) 1))
