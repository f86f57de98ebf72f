-- Tests that compute: of all numbers below n, and one that asks only where another holds; and what a test says.
use Rattle.std.specs.Prelude.{◌≡◌, Bool, true, false, ◌&&◌, ◌↔◌, ℕ, zero, suc}

-- the test holds of 0, 1, .., n - 1
unfoldable pub every : (ℕ → Bool) → ℕ → Bool
every t zero = true
every t (suc n) = every t n && t n

-- where the first holds, so does the second
abbrev pub implies : Bool → Bool → Bool
implies true b = b
implies false b = true

-- the test holds exactly where the statement does
abbrev pub Says : Bool → Type 0 → Type 0
Says t A = (t ≡ true) ↔ A
