-- The rank of n among the numbers that a test picks: how many of them are below n.
use Rattle.std.specs.Prelude.{Bool, ℕ}
use Rattle.laws.specs.Sum.{sum, when}

unfoldable pub rank : (ℕ → Bool) → ℕ → ℕ
rank t n = sum (λ i. when (t i) 1) n
