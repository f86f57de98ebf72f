-- Lists of counters.
use Rattle.std.specs.Prelude.{◌≡◌, List, ℕ, ◌<◌, length}
use Rattle.laws.specs.Row.{at}

-- n counters, and counter v stands at g v
pub record Counted (l : List ℕ) (n : ℕ) (g : ℕ → ℕ) : Type 0 where
  pub long : length l ≡ n
  pub count : (v : ℕ) → v < n → at l v ≡ g v
