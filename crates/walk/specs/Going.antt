-- The states of a walk round a cycle of two pairings P and Q, over labels X.
use Rattle.std.specs.Prelude.{◌≡◌, List, ℕ, ◌+◌, ◌<◌, length}
use Rattle.laws.specs.Row.{at}
use Rattle.walk.specs.Walk.{Matched}

-- what stands for a label that is still to come
abbrev pub no_label : ℕ
no_label = 2

-- wherever X has a label it is 0 or 1, and its partner's is the other
pub record Alternating (n : ℕ) (P X : ℕ → ℕ) : Type 0 where
  pub other : (g : ℕ) → g < n → (X g ≡ no_label → ⊥) → X (P g) + X g ≡ 1

-- whole cycles are labelled
pub record State (n : ℕ) (P Q X : ℕ → ℕ) : Type 0 where
  pub alt_p : Alternating n P X
  pub alt_q : Alternating n Q X

-- what X₀ has labelled, X has
pub record Grown (X₀ X : ℕ → ℕ) : Type 0 where
  pub grown : (g : ℕ) → X g ≡ no_label → X₀ g ≡ no_label

-- the walk from s stands at t: at its first item, or with s labelled 0 and the partner that it came by labelled 1
pub data WalkAt (Q X : ℕ → ℕ) (s t : ℕ) : Type 0 where
  first : t ≡ s → X s ≡ no_label → X (Q s) ≡ no_label → WalkAt Q X s t
  later : X s ≡ 0 → X (Q t) ≡ 1 → ((X t ≡ no_label → ⊥) → t ≡ s) → WalkAt Q X s t

-- but for s and the partner that it came by, the labels alternate on Q too
pub record Walking (n : ℕ) (P Q X : ℕ → ℕ) (s t : ℕ) : Type 0 where
  pub alt_p : Alternating n P X
  pub alt_q : (g : ℕ) → g < n → (g ≡ s → ⊥) → (g ≡ Q t → ⊥) → (X g ≡ no_label → ⊥) → X (Q g) + X g ≡ 1
  pub t_in : t < n
  pub head : WalkAt Q X s t

-- whole cycles are labelled, and every item below a
pub record Passing (p q labels : List ℕ) (a : ℕ) : Type 0 where
  pub matched : Matched p q labels
  pub state : State (length p) (at p) (at q) (at labels)
  pub done : (i : ℕ) → i < a → at labels i ≡ no_label → ⊥
