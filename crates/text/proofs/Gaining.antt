-- Letters put behind a text in a lent room.
-- Assumes nothing.
use mathlib.Core.Path.{◌≡◌, refl, ap, ◌∙◌}
use mathlib.Core.List.{List, [], ◌∷◌, ◌++◌}
use Prim.Native.Nat.{ℕ, ◌+◌, ◌/◌, ◌%◌, ◌≤◌, ◌<◌}
use native.Mathlib.Numerals.{add-one}
use native.Mathlib.Omega.{arith}
use lib.ListN.{length, get_or, take}
use lib.Seq.{take-suc}
use Rattle.text.specs.declared.Text.{Text}
use Rattle.text.specs.Text.{Text as At, up_to, puts, each}
use Rattle.text.specs.Lent.{text_so_far, Gains}
use Rattle.text.specs.Forms.{decimal}
use Rattle.text.proofs.Putting.{behind, puts_none}
use Rattle.text.proofs.Decimals.{decimal_small, decimal_more}

-- none yet
pub gains_none : (t : Text) → Gains t t []
gains_none t = record { same_room = refl; value = puts_none _ }

pub gains_none_of : (t : Text) (f : ℕ → List ℕ) → Gains t t (each f 0)
unfolding each
gains_none_of t f = gains_none t

-- some letters, and the same in another form
pub gains_as : (t u : Text) (a b : List ℕ) → a ≡ b → Gains t u a → Gains t u b
gains_as t u a b e p = rw (← e) p

-- some letters, and more of them
pub gains_both : (t u v : Text) (a b : List ℕ) → Gains t u a → Gains u v b → Gains t v (a ++ b)
gains_both t u v a b p q = record { same_room = q.same_room ∙ p.same_room; value = behind _ _ _ a b p.value q.value }

-- a word, and one letter more of it
pub gains_letter : (t u v : Text) (s : List ℕ) (i : ℕ) → i < length s → Gains t u (take i s) → Gains u v (get_or s i 0 ∷ []) → Gains t v (take (i + 1) s)
gains_letter t u v s i l p q = gains_as t v _ _ (rw (add-one, take-suc s i 0)) (gains_both t u v _ _ p q)

-- a series of texts, and one more of it
pub gains_next : (t u v : Text) (f : ℕ → List ℕ) (i : ℕ) → Gains t u (each f i) → Gains u v (f i) → Gains t v (each f (i + 1))
unfolding each
gains_next t u v f i p q = rw add-one (gains_both t u v _ _ p q)

-- a number: one digit, or its last behind the others
pub gains_digit : (t u : Text) (n : ℕ) → n < 10 → Gains t u ((48 + n) ∷ []) → Gains t u (decimal n)
gains_digit t u n h p = rw (decimal_small n h) p

pub gains_digits : (t u v : Text) (n : ℕ) → 10 ≤ n → Gains t u (decimal (n / 10)) → Gains u v ((48 + n % 10) ∷ []) → Gains t v (decimal n)
gains_digits t u v n h p q = rw (decimal_more n h) (gains_both t u v _ _ p q)

-- what the room then holds, where the text began with none
pub gains_at_front : (t u : Text) (room s : List ℕ) → text_so_far t ≡ up_to room 0 → Gains t u s → text_so_far u ≡ puts (up_to room 0) s
gains_at_front t u room s e p = p.value ∙ ap (λ (x : At). puts x s) e
