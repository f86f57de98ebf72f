-- The lines of the nets by the nets' numbers: what stands where the lines before net i end.
-- Assumes nothing.
use mathlib.Core.Path.{◌≡◌, sym, ap, ◌∙◌}
use mathlib.Core.List.{List, ◌∷◌, ◌++◌}
use Prim.Native.Nat.{ℕ, suc, ◌+◌, ◌-◌, ◌*◌, ◌≤◌, ◌<◌}
use native.Mathlib.Omega.{arith}
use lib.ListN.{length, get_or, drop, length-drop}
use lib.Seq.{drop-cons, get_or-drop}
use Rattle.std.specs.Prelude.{Ok, Err}
use Rattle.form.specs.declared.Read.{Read}
use Rattle.form.specs.declared.Broken.{Broken}
use Rattle.form.specs.Form.{net_line, nets_text, EndsOf}
use Rattle.form.specs.Walk.{NetAt}
use Rattle.form.proofs.NetLines.{line_known, line_unbroken}

pub lines_from : (n : ℕ) (ends : List ℕ) → length ends ≡ 2 * n → (i : ℕ) → i < n → nets_text (drop (2 * i) ends) ≡ net_line (get_or ends (2 * i) 0) (get_or ends (2 * i + 1) 0) ++ nets_text (drop (2 * (i + 1)) ends)
unfolding nets_text
lines_from n ends long i h =
    let first : drop (2 * i) ends ≡ get_or ends (2 * i) 0 ∷ drop (2 * i + 1) ends = at_place (2 * i) (2 * i + 1) (omega arith) (omega (arith, long)) in
    let second : drop (2 * i + 1) ends ≡ get_or ends (2 * i + 1) 0 ∷ drop (2 * (i + 1)) ends = at_place (2 * i + 1) (2 * (i + 1)) (omega arith) (omega (arith, long)) in
    ap nets_text (first ∙ ap (λ (p : List ℕ). get_or ends (2 * i) 0 ∷ p) second)
  where
    at_place : (k next : ℕ) → next ≡ suc k → k < length ends → drop k ends ≡ get_or ends k 0 ∷ drop next ends
    at_place k next e l = drop-cons ends k 0 l ∙ ap (λ (j : ℕ). get_or ends k 0 ∷ drop j ends) (sym e)

module _ (n : ℕ) (ends : List ℕ) (of : EndsOf n ends) where
  pub ends_behind : (i : ℕ) → i ≤ n → EndsOf (n - i) (drop (2 * i) ends)
  ends_behind i h = record { long = length-drop (2 * i) ends ∙ omega (arith, of.long); small = λ k. rw (get_or-drop (2 * i) ends k 0) (of.small (2 * i + k)) }

  -- the line of net i, read where it starts
  module _ (t : List ℕ) (a i : ℕ) (h : i < n) (e : drop a t ≡ nets_text (drop (2 * i) ends)) where
    pub line_at : (r : Read (ℕ × ℕ)) → NetAt t a (Ok r)
        → (r.value.0 ≡ get_or ends (2 * i) 0) × (r.value.1 ≡ get_or ends (2 * i + 1) 0) × (drop r.end t ≡ nets_text (drop (2 * (i + 1)) ends))
    line_at r = line_known (n - (i + 1)) _ _ t _ a (of.small (2 * i)) (of.small (2 * i + 1)) (ends_behind (i + 1) (omega arith)) (e ∙ lines_from n ends of.long i h) r

    pub line_stands : (b : Broken) → NetAt t a (Err b) → ⊥
    line_stands b = line_unbroken (n - (i + 1)) _ _ t _ a (of.small (2 * i)) (of.small (2 * i + 1)) (ends_behind (i + 1) (omega arith)) (e ∙ lines_from n ends of.long i h) b
