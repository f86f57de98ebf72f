-- The lines, put piece by piece.
-- Assumes nothing.
use mathlib.Core.List.{[], ◌∷◌}
use Prim.Native.Nat.{ℕ}
use Rattle.words.specs.declared.Refusal.{Refusal}
use Rattle.std.specs.Prelude.{Err}
use Rattle.text.specs.declared.Text.{Text}
use Rattle.text.specs.Lent.{Gains}
use Rattle.text.specs.Forms.{spaced}
use Rattle.text.proofs.Gaining.{gains_both}
use Rattle.lines.specs.Lines.{refused_word, rounds_word, excess_word, verdict_text, refusal_line, rounds_line}

module _ (t u v w : Text) where
  pub refusal_told : (r : Refusal) → Gains t u refused_word → Gains u v (verdict_text (Err r)) → Gains v w (10 ∷ []) → Gains t w (refusal_line r)
  unfolding refusal_line
  refusal_told r p q s = gains_both t u w _ _ p (gains_both u v w _ _ q s)

  module _ (x y : Text) where
    pub rounds_told : (k s : ℕ) → Gains t u rounds_word → Gains u v (spaced k) → Gains v w excess_word → Gains w x (spaced s) → Gains x y (10 ∷ [])
        → Gains t y (rounds_line k s)
    unfolding rounds_line
    rounds_told k s a b c d e = gains_both t u y _ _ a (gains_both u v y _ _ b (gains_both v w y _ _ c (gains_both w x y _ _ d e)))
