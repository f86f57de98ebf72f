-- The excess is bounded by the degree, the total excess by the number of net ends; it is 0 exactly where no load is above the width.
-- Assumes nothing.
use mathlib.Core.Path.{◌≡◌}
use mathlib.Core.Logic.{◌↔◌}
use Prim.Native.Nat.{ℕ, ◌-◌, ◌*◌, ◌≤◌, ◌<◌}
use native.Mathlib.Omega.{arith}
use Rattle.laws.proofs.Sum.{sum_le, sum_none, none_of_sum}
use Rattle.board.specs.Netlist.{Netlist}
use Rattle.board.specs.Board.{degree, load, excess, total_excess, InRange, Legal}
use Rattle.board.proofs.Loads.{loads_add, degrees_at_most}

module _ (J : Netlist) (a : ℕ → ℕ) where
  pub excess_at_most : InRange J a → (v : ℕ) → excess J a v ≤ degree J v
  unfolding excess
  excess_at_most h v = omega (arith, loads_add J a h v, sum_le (λ x. load J a v x - J.width v) (load J a v) J.c (λ x l. omega arith))

  pub total_excess_at_most : InRange J a → total_excess J a ≤ 2 * J.n
  unfolding total_excess
  total_excess_at_most h = omega (arith, degrees_at_most J, sum_le (excess J a) (degree J) J.f (λ v l. excess_at_most h v))

  -- an FPGA without excess
  pub excess_none : (v : ℕ) → (excess J a v ≡ 0) ↔ ((x : ℕ) → x < J.c → load J a v x ≤ J.width v)
  unfolding excess
  excess_none v = (
    λ z x l. omega (arith, none_of_sum (λ x. load J a v x - J.width v) J.c z x l),
    λ h. sum_none (λ x. load J a v x - J.width v) J.c (λ x l. omega (arith, h x l)),
  )

  pub legal_within : Legal J a → (v x : ℕ) → v < J.f → x < J.c → load J a v x ≤ J.width v
  unfolding total_excess
  legal_within z v x lv lx = (excess_none v).0 (none_of_sum (excess J a) J.f z v lv) x lx

  pub within_legal : ((v x : ℕ) → v < J.f → x < J.c → load J a v x ≤ J.width v) → Legal J a
  unfolding total_excess
  within_legal h = sum_none (excess J a) J.f (λ v lv. (excess_none v).1 (λ x lx. h v x lv lx))
