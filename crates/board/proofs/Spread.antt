-- Two totals that come together never widen the spread; and a spread of at most one, by any two crossbars.
-- Assumes nothing.
use mathlib.Core.Path.{◌≡◌}
use mathlib.Core.Logic.{◌≢◌}
use Prim.Native.Nat.{ℕ, ◌+◌, ◌≤◌, ◌<◌}
use native.Mathlib.Omega.{arith}
use Rattle.laws.proofs.Greatest.{greatest_no_more, least_no_less, all_near, ends_near}
use Rattle.board.specs.Netlist.{Netlist}
use Rattle.board.specs.Board.{total, spread, Balanced}
use Rattle.board.specs.Rule.{Moved}
use Rattle.board.proofs.Change.{total_elsewhere, totals_together}

module _ (J : Netlist) (a b : ℕ → ℕ) (A B : ℕ) (m : Moved J a b A B) (la : A < J.c) (lb : B < J.c) (ne : A ≢ B) where
  pub spread_no_more : (total J b A ≤ total J b B + 1) × (total J b B ≤ total J b A + 1) → spread J b ≤ spread J a
  unfolding spread
  spread_no_more near =
      let other : (x : ℕ) → x < J.c → x ≢ A → x ≢ B → total J b x ≡ total J a x = λ x l na nb. total_elsewhere J a b A B m x na nb in
      omega (
        arith,
        greatest_no_more (total J a) (total J b) A B J.c la lb other (totals_together J a b A B m ne) near,
        least_no_less (total J a) (total J b) A B J.c la lb other (totals_together J a b A B m ne) near,
      )

module _ (J : Netlist) (a : ℕ → ℕ) where
  pub balanced_near : Balanced J a → (x y : ℕ) → x < J.c → y < J.c → total J a x ≤ total J a y + 1
  unfolding spread
  balanced_near h = all_near (total J a) 1 J.c (omega arith)

  pub near_balanced : ((x y : ℕ) → x < J.c → y < J.c → total J a x ≤ total J a y + 1) → Balanced J a
  unfolding spread
  near_balanced h = omega (arith, ends_near (total J a) 1 J.c h)
