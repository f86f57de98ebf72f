-- What holds of a verdict's refusal, whichever of its checks gives it.
-- Assumes nothing.
use Rattle.words.specs.declared.Reason.{Reason}
use mathlib.Core.Path.{◌≡◌, refl}
use mathlib.Core.Bool.{Bool, true, false}
use Prim.Native.Nat.{ℕ, zero, suc, ◌<◌}
use native.Mathlib.Omega.{arith}
use Rattle.words.specs.declared.Place.{Place}
use Rattle.words.specs.declared.Refusal.{Refusal}
use Rattle.words.specs.Verdict.{Verdict, refuse_if, ◌then◌, first_refusal}
use Rattle.std.specs.Prelude.{Ok, Err}

abbrev pub OfRefusal : (Refusal → Type 0) → Verdict → Type 0
OfRefusal P (Ok _) = Unit
OfRefusal P (Err r) = P r

pub record Always (P : Refusal → Type 0) (v : Verdict) : Type 0 where
  pub holds : OfRefusal P v

module _ {P : Refusal → Type 0} where
  pub always_if : (b : Bool) (k : Reason) (place : Place) → (b ≡ true → P (record { reason = k; place = place })) → Always P (refuse_if b k place)
  unfolding refuse_if
  always_if true k place h = record { holds = h refl }
  always_if false k place h = record { holds = tt }

  pub always_then : (u v : Verdict) → Always P u → (u ≡ Ok tt → Always P v) → Always P (u then v)
  unfolding ◌then◌
  always_then (Ok _) v h g = g refl
  always_then (Err r) v h g = h

  pub always_first : (g : ℕ → Verdict) (n : ℕ) → ((i : ℕ) → i < n → Always P (g i)) → Always P (first_refusal g n)
  unfolding first_refusal
  always_first g zero h = record { holds = tt }
  always_first g (suc n) h = always_then (first_refusal g n) (g n) (always_first g n (λ i l. h i (omega arith))) (λ _. h n (omega arith))
