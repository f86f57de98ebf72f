-- All ways to put n nets on c crossbars.
use Rattle.std.specs.Prelude.{List, [], ◌∷◌, ◌++◌, ℕ, zero, suc}

-- there is a member
abbrev pub Some : {A : Type 0} → List A → Type 0
Some [] = ⊥
Some (x ∷ xs) = Unit

-- a way to put the first nets on crossbars, and the next net on each of the crossbars 0, 1, .., c - 1
abbrev pub next_net : List ℕ → ℕ → List (List ℕ)
next_net w zero = []
next_net w (suc c) = next_net w c ++ ((w ++ (c ∷ [])) ∷ [])

abbrev pub next_nets : ℕ → List (List ℕ) → List (List ℕ)
next_nets c [] = []
next_nets c (w ∷ ws) = next_net w c ++ next_nets c ws

-- all c ^ n ways to put n nets on c crossbars
abbrev pub ways : ℕ → ℕ → List (List ℕ)
ways c zero = [] ∷ []
ways c (suc n) = next_nets c (ways c n)
