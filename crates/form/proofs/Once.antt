-- A text has one reading: its numbers are determined, or the place where it breaks is.
-- Assumes nothing.
use mathlib.Core.Path.{◌≡◌, sym, ap, subst, ◌∙◌}
use mathlib.Core.Logic.{dite}
use mathlib.Core.List.{List, [], ◌++◌, append-nil}
use Prim.Native.Nat.{ℕ, ◌≤◌, ◌<◌}
use native.Mathlib.Decide.{dec_lt}
use native.Mathlib.Omega.{arith}
use lib.ListN.{length, take, length-append}
use lib.Seq.{take-length, take-take, length-take-le}
use Rattle.words.specs.Verdict.{Verdict, refuse}
use Rattle.words.specs.declared.Reason.TheVariants as reason
use Rattle.form.specs.Form.{text_of, InForm, IsText}
use Rattle.form.specs.Breaks.{Begins, Longest, place_behind, BreaksAs}
use Rattle.form.proofs.NetLines.{ends_once}
use Rattle.form.proofs.Whole.{board_once, count_once}
use Rattle.form.proofs.Most.{form_most}

-- ---- the numbers of a text

module _ (f c m n f' c' m' n' : ℕ) (ends ends' : List ℕ) where
  pub text_once : InForm f c m n ends → InForm f' c' m' n' ends' → text_of f c m n ends ≡ text_of f' c' m' n' ends' → (f ≡ f') × (c ≡ c') × (m ≡ m') × (n ≡ n') × (ends ≡ ends')
  unfolding text_of
  text_once p q e =
      let b = board_once f c m f' c' m' _ _ e in
      let k = count_once n n' _ _ b.3 in
      (b.0, b.1, b.2, k.0, ends_once n ends ends' p.nets (rw (sym k.0) at q.nets) k.1)

-- ---- the longest beginning

module _ (L : List ℕ → Type 0) (t : List ℕ) where
  pub longest_once : (j k : ℕ) → Longest L t j → Longest L t k → j ≡ k
  longest_once j k p q =
      dite (dec_lt j k) (λ l. absurd (p.no_longer k l q.within q.begins))
      (λ g. dite (dec_lt k j) (λ l. absurd (q.no_longer j l p.within p.begins)) (λ h. omega arith))

  -- of one of the texts it is all
  pub longest_all : (k : ℕ) → L t → Longest L t k → k ≡ length t
  longest_all k whole p =
      dite (dec_lt k (length t))
      (λ l. absurd (p.no_longer (length t) l (omega arith) (record { rest = []; text = subst L (sym (append-nil (take (length t) t) ∙ take-length t)) whole })))
      (λ g. omega (arith, p.within))

-- ---- the refusals

module _ (t : List ℕ) where
  pub text_unbroken : (v : Verdict) → IsText t → BreaksAs t v → ⊥
  text_unbroken v whole (BreaksAs.breaks k longest none e) =
      none (subst IsText (sym (ap (λ (j : ℕ). take j t) (longest_all IsText t k whole longest) ∙ take-length t)) whole)
  text_unbroken v whole (BreaksAs.follows k longest is l e) = absurd (omega (arith, longest_all IsText t k whole longest))

  pub breaks_once : (v w : Verdict) → BreaksAs t v → BreaksAs t w → v ≡ w
  breaks_once v w (BreaksAs.breaks j p none e) (BreaksAs.breaks k q none' e') = e ∙ ap (λ (i : ℕ). refuse reason.TextBreaks (place_behind (take i t))) (longest_once IsText t j k p q) ∙ sym e'
  breaks_once v w (BreaksAs.breaks j p none e) (BreaksAs.follows k q is l e') = absurd (none (subst (λ (i : ℕ). IsText (take i t)) (longest_once IsText t k j q p) is))
  breaks_once v w (BreaksAs.follows j p is l e) (BreaksAs.breaks k q none e') = absurd (none (subst (λ (i : ℕ). IsText (take i t)) (longest_once IsText t j k p q) is))
  breaks_once v w (BreaksAs.follows j p is l e) (BreaksAs.follows k q is' l' e') = e ∙ ap (λ (i : ℕ). refuse reason.TextGoesOn (place_behind (take i t))) (longest_once IsText t j k p q) ∙ sym e'

-- ---- a text that is too long for the form breaks where its first 786,458 bytes break

begins_most : (k : ℕ) (t : List ℕ) → k ≤ length t → Begins IsText (take k t) → k ≤ 786457
begins_most k t h b = omega (arith, form_most (take k t ++ b.rest) b.text, length-append (take k t) b.rest, length-take-le k t h)

module _ (t : List ℕ) (long : 786457 < length t) where
  cut : (k : ℕ) → k ≤ 786458 → take k (take 786458 t) ≡ take k t
  cut k h = take-take k 786458 t h

  cut_longest : (k : ℕ) → Longest IsText t k → Longest IsText (take 786458 t) k
  cut_longest k p =
      let most = begins_most k t p.within p.begins in
      let all = length-take-le 786458 t (omega arith) in
      record {
        within = omega (arith, all, most);
        begins = subst (Begins IsText) (sym (cut k (omega (arith, most)))) p.begins;
        no_longer = λ j h l b. p.no_longer j h (omega (arith, all, l)) (subst (Begins IsText) (cut j (omega (arith, all, l))) b);
      }

  pub cut_breaks : (v : Verdict) → BreaksAs t v → BreaksAs (take 786458 t) v
  cut_breaks v (BreaksAs.breaks k p none e) =
      let same = cut k (omega (arith, begins_most k t p.within p.begins)) in
      BreaksAs.breaks k (cut_longest k p) (λ is. none (subst IsText same is)) (e ∙ ap (λ (s : List ℕ). refuse reason.TextBreaks (place_behind s)) (sym same))
  cut_breaks v (BreaksAs.follows k p is l e) =
      let most = begins_most k t p.within p.begins in
      let same = cut k (omega (arith, most)) in
      BreaksAs.follows k (cut_longest k p) (subst IsText (sym same) is) (omega (arith, most, length-take-le 786458 t (omega arith))) (e ∙ ap (λ (s : List ℕ). refuse reason.TextGoesOn (place_behind s)) (sym same))
