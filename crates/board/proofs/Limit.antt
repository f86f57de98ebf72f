-- A degree above the limit leaves no legal assignment; at or below it, a load above the width leaves a crossbar with room.
-- Assumes nothing.
use mathlib.Core.Logic.{⊎_elim}
use Prim.Native.Nat.{ℕ, ◌≤◌, ◌<◌}
use native.Mathlib.Decide.{dec_lt}
use native.Mathlib.Omega.{arith}
use Rattle.laws.specs.Lowest.{Lowest}
use Rattle.laws.proofs.Sum.{sum_at_most, sum_const, sum_less}
use Rattle.laws.proofs.Lowest.{lowest}
use Rattle.board.specs.Netlist.{Netlist}
use Rattle.board.specs.Board.{degree, load, limit, InRange, Legal}
use Rattle.board.proofs.Loads.{loads_add}
use Rattle.board.proofs.Excess.{legal_within}

module _ (J : Netlist) (a : ℕ → ℕ) (h : InRange J a) (v : ℕ) where
  pub legal_limit : v < J.f → Legal J a → degree J v ≤ limit J v
  unfolding limit
  legal_limit l z = omega (arith, loads_add J a h v, sum_at_most (load J a v) (J.width v) J.c (λ x q. legal_within J a z v x l q))

  pub over_limit : v < J.f → limit J v < degree J v → Legal J a → ⊥
  over_limit l o z = omega (arith, legal_limit l z)

  -- the lowest crossbar with a load below the width
  pub room_below : degree J v ≤ limit J v → (x : ℕ) → x < J.c → J.width v < load J a v x → Lowest (λ y. load J a v y < J.width v) J.c
  unfolding limit
  room_below d x l o =
      ⊎_elim (λ w. w) (λ none.
      absurd (omega (
        arith,
        loads_add J a h v,
        sum_const (J.width v) J.c,
        sum_less (λ _. J.width v) (load J a v) x J.c l (λ k q. omega (arith, none k q)) o,
      )))
      (lowest (λ y. load J a v y < J.width v) (λ y. dec_lt (load J a v y) (J.width v)) J.c)
