-- Two pairings of the same items, and labels that alternate on both.
use Rattle.std.specs.Prelude.{◌≡◌, List, ℕ, length}
use Rattle.laws.specs.Row.{at}
use Rattle.laws.specs.Matching.{Perfect, Alternates}

-- p and q pair the same items, and there is room for as many labels
pub record Matched (p q labels : List ℕ) : Type 0 where
  pub q_long : length q ≡ length p
  pub long : length labels ≡ length p
  pub on_p : Perfect (length p) (at p)
  pub on_q : Perfect (length p) (at q)

-- the labels alternate on both
pub record Alternated (p q labels : List ℕ) : Type 0 where
  pub long : length labels ≡ length p
  pub on_p : Alternates (length p) (at p) (at labels)
  pub on_q : Alternates (length p) (at q) (at labels)
