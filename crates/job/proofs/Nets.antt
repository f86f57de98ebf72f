-- The nets in order: one more that passes, and the first that does not.
-- Assumes nothing.
use mathlib.Core.Path.{◌≡◌, refl, ◌∙◌}
use Prim.Native.Nat.{ℕ, ◌+◌, ◌<◌}
use Rattle.words.specs.declared.Refusal.{Refusal}
use Rattle.std.specs.Prelude.{Ok, Err}
use Rattle.words.specs.Verdict.{first_refusal}
use Rattle.words.proofs.Order.{first_next, first_stops}
use Rattle.job.specs.Check.{net_verdict, nets_verdict}

module _ (f start : ℕ) (first second : ℕ → ℕ) where
  pub nets_none : nets_verdict f start first second 0 ≡ Ok tt
  unfolding nets_verdict first_refusal
  nets_none = refl

  module _ (i v w : ℕ) (ev : v ≡ first i) (ew : w ≡ second i) (past : nets_verdict f start first second i ≡ Ok tt) where
    pub nets_pass : net_verdict f start i v w ≡ Ok tt → nets_verdict f start first second (i + 1) ≡ Ok tt
    unfolding nets_verdict
    nets_pass h = first_next _ i past ∙ rw (← ev, ← ew) h

    pub nets_stop : (n : ℕ) (r : Refusal) → i < n → net_verdict f start i v w ≡ Err r → nets_verdict f start first second n ≡ Err r
    unfolding nets_verdict
    nets_stop n r l h = first_stops _ i n r past (rw (← ev, ← ew) h) l
