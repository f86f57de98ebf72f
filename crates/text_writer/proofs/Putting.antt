-- A text put piece by piece.
-- Assumes nothing.
use mathlib.Core.Path.{◌≡◌, sym, ap, ◌∙◌}
use mathlib.Core.List.{List, ◌++◌}
use Prim.Native.Nat.{ℕ, ◌≤◌}
use lib.ListN.{length}
use Rattle.words.specs.Lent.{onto}
use Rattle.text.specs.declared.Text as declared
use Rattle.text.specs.Text.{Text, up_to, puts}
use Rattle.text.specs.Lent.{text_so_far, Gains}
use Rattle.text.proofs.Putting.{puts_append, puts_whole}
use Rattle.text.proofs.Gaining.{gains_both, gains_at_front}
use Rattle.form.specs.Form.{space, newline, board_line, nets_word, number_then, net_line, board_text, count_text}

pub line_put : (t u v : declared.Text) (x y : ℕ) → Gains t u (number_then x space) → Gains u v (number_then y newline) → Gains t v (net_line x y)
unfolding net_line
line_put t u v x y p q = gains_both t u v (number_then x space) (number_then y newline) p q

pub head_put : (t t₁ t₂ t₃ t₄ t₅ t₆ : declared.Text) (f c m n : ℕ) → Gains t t₁ board_line → Gains t₁ t₂ (number_then f newline) → Gains t₂ t₃ (number_then c newline)
    → Gains t₃ t₄ (number_then m newline) → Gains t₄ t₅ nets_word → Gains t₅ t₆ (number_then n newline) → Gains t t₆ (board_text f c m ++ count_text n)
unfolding board_text count_text
head_put t t₁ t₂ t₃ t₄ t₅ t₆ f c m n p q r s u v =
    gains_both t t₄ t₆ _ _ (gains_both t t₁ t₄ board_line _ p (gains_both t₁ t₂ t₄ _ _ q (gains_both t₂ t₃ t₄ _ _ r s))) (gains_both t₄ t₅ t₆ nets_word _ u v)

-- what the text will be once the rest is put: the same after one line more, as the rest is less by it
pub line_done : (t u v : declared.Text) (l rest all s : List ℕ) → Gains u v l → all ≡ l ++ rest
    → (u.room.ghost_name ≡ t.room.ghost_name) × (puts (text_so_far u) all ≡ puts (text_so_far t) s)
    → (v.room.ghost_name ≡ t.room.ghost_name) × (puts (text_so_far v) rest ≡ puts (text_so_far t) s)
line_done t u v l rest all s p e q =
    (p.same_room ∙ q.0, ap (λ (x : Text). puts x rest) p.value ∙ puts_append (text_so_far u) l rest ∙ sym (ap (puts (text_so_far u)) e) ∙ q.1)

-- where there is room for it, the text stands at the front
pub text_put : (t u v : declared.Text) (room head lines text : List ℕ) → text_so_far t ≡ up_to room 0 → Gains t u head → Gains u v lines
    → text ≡ head ++ lines → length text ≤ length room → v.room.now ≡ onto text room
text_put t u v room head lines text e p q d h =
    ap (λ (x : Text). x.room) (gains_at_front t v room _ e (gains_both t u v head lines p q) ∙ ap (puts (up_to room 0)) (sym d) ∙ puts_whole room text h)
