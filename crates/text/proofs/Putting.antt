-- Text put behind text.
-- Assumes nothing.
use mathlib.Core.Path.{◌≡◌, refl, sym, ap, ◌∙◌}
use mathlib.Core.List.{List, [], ◌∷◌, ◌++◌}
use Prim.Native.Nat.{ℕ, ◌+◌, ◌≤◌, ◌<◌}
use native.Mathlib.Omega.{arith}
use lib.ListN.{length, set, length-append}
use lib.Seq.{set_at, append_snoc}
use borrow.Author.Tests.{lt-ltb, le-ltb}
use Rattle.words.specs.Lent.{onto}
use Rattle.text.specs.Text.{Text, up_to, put, puts}

pub puts_append : (t : Text) (a b : List ℕ) → puts (puts t a) b ≡ puts t (a ++ b)
unfolding puts
puts_append t [] b = refl
puts_append t (x ∷ a) b = puts_append (put t x) a b

pub puts_none : (t : Text) → t ≡ puts t []
unfolding puts
puts_none t = refl

-- one text put behind another
pub behind : (t u v : Text) (a b : List ℕ) → u ≡ puts t a → v ≡ puts u b → v ≡ puts t (a ++ b)
behind t u v a b p q = q ∙ ap (λ (w : Text). puts w b) p ∙ puts_append t a b

-- one byte
module _ (room : List ℕ) (at b : ℕ) where
  pub put_none : length room ≤ at → up_to room at ≡ puts (up_to room at) (b ∷ [])
  unfolding put puts
  put_none h = rw (le-ltb at (length room) h)

  pub put_one : at < length room → up_to (set room at b) (at + 1) ≡ puts (up_to room at) (b ∷ [])
  unfolding put puts
  put_one h = rw (lt-ltb at (length room) h)

-- where there is room for all of it, a text stands behind what stood there
pub puts_behind : (p r s : List ℕ) (k : ℕ) → length p ≡ k → length s ≤ length r → puts (up_to (p ++ r) k) s ≡ up_to (p ++ onto s r) (k + length s)
unfolding puts
puts_behind p r [] k e h = ap (up_to (p ++ r)) (omega arith)
puts_behind p [] (b ∷ s) k e h = absurd (omega arith)
puts_behind p (x ∷ r) (b ∷ s) k e h =
    let l : length (p ++ (b ∷ [])) ≡ k + 1 = simp length-append (omega arith) in
    let m : k + 1 + length s ≡ k + length (b ∷ s) = omega arith in
    ap (λ (t : Text). puts t s)
    (sym (put_one (p ++ (x ∷ r)) k b (simp length-append (omega arith)))
    ∙ ap (λ (q : List ℕ). up_to q (k + 1)) (set_at p x r b k e ∙ sym (append_snoc p b r)))
    ∙ puts_behind (p ++ (b ∷ [])) r s (k + 1) l (omega arith)
    ∙ rw (append_snoc p b (onto s r), m)

pub puts_whole : (room s : List ℕ) → length s ≤ length room → puts (up_to room 0) s ≡ up_to (onto s room) (length s)
puts_whole room s h = let z : 0 + length s ≡ length s = omega arith in puts_behind [] room s 0 refl h ∙ rw z
