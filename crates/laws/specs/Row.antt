-- A list as a function of the index, and back.
use Rattle.std.specs.Prelude.{List, [], ◌∷◌, ◌++◌, ℕ, zero, suc, get_or}

-- what stands at i; behind the end 0
abbrev pub at : List ℕ → ℕ → ℕ
at l i = get_or l i 0

-- f 0, f 1, .., f (n - 1) as a list
unfoldable pub row : (ℕ → ℕ) → ℕ → List ℕ
row f zero = []
row f (suc n) = row f n ++ (f n ∷ [])
