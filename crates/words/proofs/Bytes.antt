-- Numbers and their bytes: each list of numbers has one list of bytes, and each list of bytes of even length comes of one.
-- Assumes nothing.
use mathlib.Core.Path.{◌≡◌, refl, ap, sym, ◌∙◌}
use mathlib.Core.List.{List, [], ◌∷◌, ◌++◌, append_assoc, append-nil}
use Prim.Native.Nat.{ℕ, zero, suc, ◌+◌, ◌-◌, ◌*◌, ◌/◌, ◌%◌, ◌≤◌, ◌<◌}
use native.Mathlib.Numerals.{add-one}
use native.Mathlib.Omega.{arith}
use lib.ListN.{length, get_or, take, drop, set, length-append, length-drop, drop_of_length-le}
use lib.Seq.{drop-cons, set_at, append_snoc, take_at, drop_at, drop-drop, take-suc, take_all, get_or-drop, length-take-le}
use Rattle.laws.specs.Part.{put}
use Rattle.laws.specs.Row.{row}
use Rattle.words.specs.Lent.{onto}
use Rattle.words.specs.Number.{word, bytes, put_word, numbers, AreBytes}

pub length_bytes : (xs : List ℕ) → length (bytes xs) ≡ 2 * length xs
length_bytes [] = refl
length_bytes (x ∷ xs) = omega (arith, length_bytes xs)

pub bytes_append : (xs ys : List ℕ) → bytes (xs ++ ys) ≡ bytes xs ++ bytes ys
bytes_append [] ys = refl
bytes_append (x ∷ xs) ys = ap (λ (l : List ℕ). x / 256 ∷ x % 256 ∷ l) (bytes_append xs ys)

-- what was written is read back
pub numbers_bytes : (xs : List ℕ) → numbers (bytes xs) ≡ xs
numbers_bytes [] = refl
numbers_bytes (x ∷ xs) =
    let e : 256 * (x / 256) + x % 256 ≡ x = omega arith in
    rw (e, numbers_bytes xs)

-- every list of bytes of even length is what its numbers are written as
pub bytes_numbers : (s : List ℕ) → length s % 2 ≡ 0 → AreBytes s → bytes (numbers s) ≡ s
bytes_numbers [] even small = refl
bytes_numbers (h ∷ []) even small = absurd (omega arith)
bytes_numbers (h ∷ l ∷ s) even small =
    let a : l < 256 = small 1 (omega arith) in
    let e : (256 * h + l) / 256 ≡ h = omega arith in
    let d : (256 * h + l) % 256 ≡ l = omega arith in
    rw (e, d, bytes_numbers s (omega arith) (λ i q. small (suc (suc i)) (omega arith)))

-- the k-th number stands at byte 2 k
pub word_bytes : (xs : List ℕ) (k : ℕ) → word (bytes xs) (2 * k) ≡ get_or xs k 0
unfolding word
word_bytes [] k = refl
word_bytes (x ∷ xs) zero = omega arith
word_bytes (x ∷ xs) (suc k) =
    let a : 2 * suc k ≡ suc (suc (2 * k)) = omega arith in
    let b : 2 * suc k + 1 ≡ suc (suc (2 * k + 1)) = omega arith in
    rw (b, a) (word_bytes xs k)

-- the k-th number of a list of bytes is the one at byte 2 k
pub number_at : (s : List ℕ) (k : ℕ) → 2 * k + 1 < length s → get_or (numbers s) k 0 ≡ word s (2 * k)
unfolding word
number_at [] k l = absurd (omega arith)
number_at (h ∷ []) k l = absurd (omega arith)
number_at (h ∷ b ∷ s) zero l = refl
number_at (h ∷ b ∷ s) (suc k) l =
    let e : 2 * suc k ≡ suc (suc (2 * k)) = omega arith in
    let d : 2 * suc k + 1 ≡ suc (suc (2 * k + 1)) = omega arith in
    rw (d, e) (number_at s k (omega arith))

pub length_numbers : (s : List ℕ) → length (numbers s) ≡ length s / 2
length_numbers [] = refl
length_numbers (h ∷ []) = refl
length_numbers (h ∷ l ∷ s) = omega (arith, length_numbers s)

-- the first number, and those behind it
pub numbers_first : (s : List ℕ) → 1 < length s → numbers s ≡ word s 0 ∷ numbers (drop 2 s)
unfolding word
numbers_first [] l = absurd (omega arith)
numbers_first (h ∷ []) l = absurd (omega arith)
numbers_first (h ∷ b ∷ s) l = refl

pub word_drop : (k : ℕ) (s : List ℕ) (i : ℕ) → word (drop k s) i ≡ word s (k + i)
unfolding word
word_drop k s i = rw (get_or-drop k s i 0, get_or-drop k s (i + 1) 0) (ap (λ (j : ℕ). 256 * get_or s (k + i) 0 + get_or s j 0) (omega arith))

-- the n numbers from byte k on, and those behind them
pub numbers_row : (s : List ℕ) (k n : ℕ) → k + 2 * n ≤ length s → numbers (drop k s) ≡ row (λ i. word s (k + 2 * i)) n ++ numbers (drop (k + 2 * n) s)
unfolding row
numbers_row s k zero l = let z : k + 2 * 0 ≡ k = omega arith in rw z
numbers_row s k (suc n) l =
    let z : k + 2 * n + 0 ≡ k + 2 * n = omega arith in
    let e : k + 2 * n + 2 ≡ k + 2 * suc n = omega arith in
    numbers_row s k n (omega arith)
    ∙ rw (numbers_first (drop (k + 2 * n) s) (simp length-drop (omega arith)), word_drop (k + 2 * n) s 0, drop-drop 2 (k + 2 * n) s, z, e, append_assoc)

-- a number written over two bytes that stand behind p
put_at : (p t : List ℕ) (a b x n : ℕ) → length p ≡ n → put_word (p ++ (a ∷ b ∷ t)) n x ≡ p ++ (x / 256 ∷ x % 256 ∷ t)
put_at p t a b x n e =
    let l : length (p ++ (x / 256 ∷ [])) ≡ n + 1 = simp length-append (omega arith) in
    ap (λ (l : List ℕ). set l (n + 1) (x % 256)) (set_at p a (b ∷ t) (x / 256) n e ∙ sym (append_snoc p (x / 256) (b ∷ t)))
    ∙ set_at (p ++ (x / 256 ∷ [])) b t (x % 256) (n + 1) l
    ∙ append_snoc p (x / 256) (x % 256 ∷ t)

-- one more number is written behind those that stand at the front of a room
pub put_next : (xs r : List ℕ) (x k : ℕ) → length xs ≡ k → 2 * k + 1 < length r → put_word (onto (bytes xs) r) (2 * k) x ≡ onto (bytes (xs ++ (x ∷ []))) r
put_next xs r x k e h =
    let l : length (bytes xs) ≡ 2 * k = omega (arith, length_bytes xs) in
    let m : length (bytes xs ++ bytes (x ∷ [])) ≡ suc (suc (2 * k)) = simp length-append (omega arith) in
    ap (λ (t : List ℕ). put_word (bytes xs ++ t) (2 * k) x)
    (ap (λ (j : ℕ). drop j r) l ∙ drop-cons r (2 * k) 0 (omega arith) ∙ ap (λ (t : List ℕ). get_or r (2 * k) 0 ∷ t) (drop-cons r (suc (2 * k)) 0 (omega arith)))
    ∙ put_at (bytes xs) _ _ _ x (2 * k) l
    ∙ rw (bytes_append, m, append_assoc)

-- a room that is written whole
pub onto_whole : (xs r : List ℕ) → length xs ≡ length r → onto xs r ≡ xs
onto_whole xs r e = rw (drop_of_length-le r {i = length xs} (omega arith), append-nil)

-- what is written behind what stands there
pub onto_onto : (xs ys r : List ℕ) (k : ℕ) → length xs ≡ k → take k (onto xs r) ++ onto ys (drop k (onto xs r)) ≡ onto (xs ++ ys) r
onto_onto xs ys r k e =
    rw (take_at xs (drop (length xs) r) k e, drop_at xs (drop (length xs) r) k e, drop-drop, length-append, append_assoc)

pub length_onto : (xs r : List ℕ) → length xs ≤ length r → length (onto xs r) ≡ length r
length_onto xs r h = simp (length-append, length-drop) (omega arith)

-- a room whose rest, from k on, was lent and has come back
pub put_to_end : (room new : List ℕ) (k : ℕ) → put room k (length room - k) new ≡ take k room ++ new
put_to_end room new k =
    let none : drop (length room - k) (drop k room) ≡ [] = drop_of_length-le (drop k room) {i = length room - k} (simp length-drop (omega arith)) in
    rw (none, append-nil)

-- what was lent
pub lent_to_end : (room : List ℕ) (k : ℕ) → take (length room - k) (drop k room) ≡ drop k room
lent_to_end room k = take_all (length room - k) (drop k room) (simp length-drop (omega arith))

-- numbers written behind those that stand at the front of a room
pub write_more : (xs ys r room new : List ℕ) (start : ℕ) → room ≡ onto (bytes xs) r → start ≡ 2 * length xs
    → new ≡ take start room ++ onto (bytes ys) (drop start room) → new ≡ onto (bytes (xs ++ ys)) r
write_more xs ys r room new start q e z =
    rw (z, q) (onto_onto (bytes xs) (bytes ys) r start (length_bytes xs ∙ sym e)) ∙ ap (λ (t : List ℕ). onto t r) (sym (bytes_append xs ys))

-- one more of a list of numbers
pub write_next : (xs r room : List ℕ) (i : ℕ) → i < length xs → 2 * length xs ≤ length r → room ≡ onto (bytes (take i xs)) r
    → put_word room (2 * i) (get_or xs i 0) ≡ onto (bytes (take (i + 1) xs)) r
write_next xs r room i l h e =
    let more : take i xs ++ (get_or xs i 0 ∷ []) ≡ take (i + 1) xs = rw (add-one, take-suc xs i 0) in
    ap (λ (t : List ℕ). put_word t (2 * i) (get_or xs i 0)) e
    ∙ put_next (take i xs) r (get_or xs i 0) i (length-take-le i xs (omega arith)) (omega arith)
    ∙ ap (λ (t : List ℕ). onto (bytes t) r) more

-- one more number is put behind those that stand at the front of a room
pub onto_next : (xs r : List ℕ) (x i : ℕ) → length xs ≡ i → i < length r → set (onto xs r) i x ≡ onto (xs ++ (x ∷ [])) r
onto_next xs r x i e l =
    let longer : length (xs ++ (x ∷ [])) ≡ suc i = simp length-append (omega arith) in
    ap (λ (t : List ℕ). set t i x) (ap (λ (j : ℕ). xs ++ drop j r) e ∙ ap (λ (t : List ℕ). xs ++ t) (drop-cons r i 0 l))
    ∙ set_at xs _ _ x i e
    ∙ sym (append_snoc xs x (drop (suc i) r))
    ∙ ap (λ (j : ℕ). (xs ++ (x ∷ [])) ++ drop j r) (sym longer)

-- one more number is read behind those that were
pub read_next : (s r out : List ℕ) (i : ℕ) → i < length r → 2 * length r ≤ length s → out ≡ onto (take i (numbers s)) r
    → set out i (word s (2 * i)) ≡ onto (take (i + 1) (numbers s)) r
read_next s r out i l h e =
    let many : i < length (numbers s) = omega (arith, length_numbers s) in
    let long : length (take i (numbers s)) ≡ i = length-take-le i (numbers s) (omega arith) in
    let more : take i (numbers s) ++ (get_or (numbers s) i 0 ∷ []) ≡ take (i + 1) (numbers s) = rw (add-one, take-suc (numbers s) i 0) in
    ap (λ (t : List ℕ). set t i (word s (2 * i))) e
    ∙ onto_next (take i (numbers s)) r (word s (2 * i)) i long l
    ∙ ap (λ (t : List ℕ). onto t r) (ap (λ (x : ℕ). take i (numbers s) ++ (x ∷ [])) (sym (number_at s i (omega arith))) ∙ more)
