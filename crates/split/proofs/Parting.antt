-- The scratch as its four parts: what a part holds whose front was lent, and the parts joined, read at the places of the map.
-- Assumes nothing.
use mathlib.Core.Path.{◌≡◌, sym, ap, ◌∙◌}
use mathlib.Core.List.{List, ◌++◌}
use Prim.Native.Nat.{ℕ, ◌+◌, ◌*◌, ◌-◌, ◌≤◌, ◌<◌}
use native.Mathlib.Omega.{arith}
use lib.ListN.{length, get_or, take, drop, get_or-append}
use lib.Seq.{length-take-le, length_front, take_at, get_or-append_right, drop-append-add}
use Rattle.std.proofs.lemmas.Slice.{drop-append-drop}
use Rattle.scratch.specs.Scratch.{region, labels_from, scratch_long}

-- the front of a part, n numbers, was lent and comes back as ys
module _ (xs ys : List ℕ) (n : ℕ) (same : length ys ≡ length (take n xs)) (fits : n ≤ length xs) where
  pub front_long : length ys ≡ n
  front_long = same ∙ length-take-le n xs fits

  pub back_long : length (ys ++ drop n xs) ≡ length xs
  back_long = length_front xs ys n same

  pub back_front : take n (ys ++ drop n xs) ≡ ys
  back_front = take_at ys _ n front_long

  pub back_beyond : (r : ℕ) → n ≤ r → drop r (ys ++ drop n xs) ≡ drop r xs
  back_beyond r l = drop-append-drop n xs ys r l front_long

  pub back_at : (i : ℕ) → i < n → get_or (ys ++ drop n xs) i 0 ≡ get_or ys i 0
  back_at i l = get_or-append ys _ 0 i (omega (arith, front_long))

-- and of that front k numbers were lent again, and come back as zs
module _ (xs ys zs : List ℕ) (n k : ℕ) (same : length ys ≡ length (take n xs)) (fits : n ≤ length xs) (less : k ≤ n) where
  pub again_long : length (take k (ys ++ drop n xs)) ≡ k
  again_long = length-take-le k _ (omega (arith, back_long xs ys n same fits))

  module _ (again : length zs ≡ length (take k (ys ++ drop n xs))) where
    pub twice_long : length (zs ++ drop k (ys ++ drop n xs)) ≡ length xs
    twice_long = length_front _ zs k again ∙ back_long xs ys n same fits

    pub twice_beyond : (r : ℕ) → n ≤ r → drop r (zs ++ drop k (ys ++ drop n xs)) ≡ drop r xs
    twice_beyond r l = drop-append-drop k _ zs r (omega arith) (again ∙ again_long) ∙ back_beyond xs ys n same fits r l

past : (a t : List ℕ) (n m : ℕ) → length a + m ≡ n → drop n (a ++ t) ≡ drop m t
past a t n m e = rw (sym e) (drop-append-add a t m)

-- three regions and the rest
module _ (a b c t : List ℕ) (la : length a ≡ region) (lb : length b ≡ region) (lc : length c ≡ region) where
  pub joined_ends : (i : ℕ) → i < region → get_or (a ++ (b ++ (c ++ t))) i 0 ≡ get_or a i 0
  joined_ends i l = get_or-append a _ 0 i (omega arith)

  pub joined_labels : (e : ℕ) → get_or (a ++ (b ++ (c ++ t))) (labels_from + e) 0 ≡ get_or t e 0
  joined_labels e =
      let z : labels_from + e - length a - length b - length c ≡ e = omega arith in
      get_or-append_right a _ (labels_from + e) 0 (omega arith)
      ∙ get_or-append_right b _ (labels_from + e - length a) 0 (omega arith)
      ∙ get_or-append_right c t (labels_from + e - length a - length b) 0 (omega arith)
      ∙ ap (λ (i : ℕ). get_or t i 0) z

  pub joined_beyond : drop scratch_long (a ++ (b ++ (c ++ t))) ≡ drop region t
  joined_beyond = past a _ scratch_long (3 * region) (omega arith) ∙ past b _ (3 * region) (2 * region) (omega arith) ∙ past c t (2 * region) region (omega arith)
