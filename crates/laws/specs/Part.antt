-- A part of a list.
use Rattle.std.specs.Prelude.{List, ◌++◌, ℕ, take, drop}

-- what a lent part comes back as: k numbers from `at` on
abbrev pub put : List ℕ → ℕ → ℕ → List ℕ → List ℕ
put s at k ys = take at s ++ (ys ++ drop k (drop at s))
