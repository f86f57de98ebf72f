-- Boards of one crossbar, where nothing is left to do within the limits (case 11).
-- Assumes nothing.
use mathlib.Core.Path.{◌≡◌, ap}
use Prim.Native.Nat.{ℕ, ◌*◌}
use native.Mathlib.Omega.{arith}
use Rattle.board.specs.Netlist.{Netlist}
use Rattle.board.specs.Board.{limit, Legal, WithinLimits}
use Rattle.board.proofs.Loads.{load_at_most_degree}
use Rattle.board.proofs.Excess.{within_legal}

-- the limit of one crossbar is m
limit_of_one : (J : Netlist) → J.c ≡ 1 → (v : ℕ) → limit J v ≡ J.width v * 1
unfolding limit
limit_of_one J e v = ap (λ (k : ℕ). J.width v * k) e

pub one_crossbar : (J : Netlist) → J.c ≡ 1 → WithinLimits J → (a : ℕ → ℕ) → Legal J a
one_crossbar J e w a = within_legal J a (λ v x lv lx. omega (arith, load_at_most_degree J a v x, w v lv, limit_of_one J e v))
