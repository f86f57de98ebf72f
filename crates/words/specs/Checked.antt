-- A check of numbers by a closure.
use Rattle.std.specs.Prelude.{◌≡◌, ℕ, ◌<◌}
use Rattle.words.specs.Verdict.{Verdict}

-- below n the closure's verdicts are those of g
abbrev pub Checks : (ℕ → Verdict → Type 0) → (ℕ → Verdict) → ℕ → Type 0
Checks post g n = (i : ℕ) (v : Verdict) → i < n → post i v → v ≡ g i
