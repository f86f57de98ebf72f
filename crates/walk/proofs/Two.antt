-- Two labels are written: what is read then, and that fewer are still to come.
-- Assumes nothing.
use mathlib.Core.Path.{◌≡◌, sym, ◌∙◌}
use mathlib.Core.List.{List}
use Prim.Native.Nat.{ℕ, ◌<◌}
use native.Mathlib.Omega.{arith}
use lib.ListN.{length, set}
use lib.Seq.{get_or-set_same, get_or-set_other, lt-length-set}
use Rattle.laws.specs.Sum.{sum}
use Rattle.laws.specs.Row.{at}
use Rattle.laws.specs.Matching.{is}
use Rattle.laws.proofs.Sum.{sum_two}
use Rattle.laws.proofs.Matching.{is_yes, is_no, is_same}
use Rattle.walk.specs.Going.{no_label}

-- X' is X with 0 at t and 1 at u
pub record Two (X X' : ℕ → ℕ) (t u : ℕ) : Type 0 where
  pub at_t : X' t ≡ 0
  pub at_u : X' u ≡ 1
  pub rest : (g : ℕ) → (g ≡ t → ⊥) → (g ≡ u → ⊥) → X' g ≡ X g

pub two_set : (x : List ℕ) (t u : ℕ) → t < length x → u < length x → (u ≡ t → ⊥) → Two (at x) (at (set (set x t 0) u 1)) t u
two_set x t u ht hu ne =
    record {
      at_t = get_or-set_other (set x t 0) u t 1 0 (λ e. ne (sym e)) ∙ get_or-set_same x t 0 0 ht;
      at_u = get_or-set_same (set x t 0) u 1 0 (lt-length-set x t 0 hu);
      rest = λ g nt nu. get_or-set_other (set x t 0) u g 1 0 nu ∙ get_or-set_other x t g 0 0 nt;
    }

pub two_fewer : (n : ℕ) (X X' : ℕ → ℕ) (t u : ℕ) → t < n → u < n → (u ≡ t → ⊥) → X t ≡ no_label → X u ≡ no_label → Two X X' t u
    → sum (is X' no_label) n < sum (is X no_label) n
two_fewer n X X' t u lt lu ne bt bu two =
    omega (
      arith,
      is_yes X no_label t bt,
      is_yes X no_label u bu,
      is_no X' no_label t (omega (arith, two.at_t)),
      is_no X' no_label u (omega (arith, two.at_u)),
      sum_two (is X no_label) (is X' no_label) t u n lt lu (λ e. ne (sym e)) (λ k l nt nu. is_same X X' no_label k (sym (two.rest k nt nu))),
    )
