-- The list of f 0, f 1, .., f (n - 1).
-- Assumes nothing.
use mathlib.Core.Path.{◌≡◌, refl, ◌∙◌}
use mathlib.Core.List.{List, [], ◌∷◌, ◌++◌}
use mathlib.Core.Logic.{dite}
use Prim.Native.Nat.{ℕ, zero, suc, ◌+◌, ◌≤◌, ◌<◌}
use native.Mathlib.Decide.{ℕ_discrete}
use native.Mathlib.Numerals.{add-one}
use native.Mathlib.Omega.{arith}
use lib.ListN.{length, take, length-append, get_or-append}
use lib.Seq.{get_or_at, take-suc}
use Rattle.laws.specs.Row.{at, row}

pub length_row : (f : ℕ → ℕ) (n : ℕ) → length (row f n) ≡ n
unfolding row
length_row f zero = refl
length_row f (suc n) = simp length-append (omega (arith, length_row f n))

pub row_at : (f : ℕ → ℕ) (n i : ℕ) → i < n → at (row f n) i ≡ f i
unfolding row
row_at f zero i l = absurd (omega arith)
row_at f (suc n) i l =
    dite (ℕ_discrete i n) (λ e. rw e (get_or_at (row f n) (f n) [] 0 n (length_row f n)))
    (λ ne. let k : i < n = omega arith in
    get_or-append (row f n) (f n ∷ []) 0 i (omega (arith, length_row f n)) ∙ row_at f n i k)

pub row_same : (f g : ℕ → ℕ) (n : ℕ) → ((i : ℕ) → i < n → f i ≡ g i) → row f n ≡ row g n
unfolding row
row_same f g zero e = refl
row_same f g (suc n) e = rw (row_same f g n (λ i l. e i (omega arith)), e n (omega arith))

-- the front of a list
pub row_take : (l : List ℕ) (n : ℕ) → n ≤ length l → row (at l) n ≡ take n l
unfolding row
row_take l zero h = refl
row_take l (suc n) h = rw (row_take l n (omega arith), take-suc l n 0)

-- one more, as the code has it
pub row_more : (f : ℕ → ℕ) (n : ℕ) → row f (n + 1) ≡ row f n ++ (f n ∷ [])
unfolding row
row_more f n = rw add-one
