-- How long a text can be.
-- Assumes nothing.
use mathlib.Core.Path.{◌≡◌, ◌∙◌}
use mathlib.Core.List.{List, [], ◌∷◌, ◌++◌}
use Prim.Native.Nat.{ℕ, zero, suc, ◌+◌, ◌*◌, ◌≤◌, ◌<◌}
use native.Mathlib.Omega.{arith}
use lib.ListN.{length, get_or, drop, length-append, drop_of_length-le}
use Rattle.text.specs.Forms.{decimal}
use Rattle.text.proofs.Decimals.{decimal_short}
use Rattle.form.specs.Form.{number_then, net_line, board_text, count_text, nets_text, text_of, IsText}
use Rattle.form.proofs.ByNumber.{lines_from}

-- the pieces
pub number_then_long : (x b : ℕ) → length (number_then x b) ≡ length (decimal x) + 1
unfolding number_then
number_then_long x b = length-append (decimal x) (b ∷ [])

pub line_long : (v w : ℕ) → length (net_line v w) ≡ length (decimal v) + length (decimal w) + 2
unfolding net_line
line_long v w = length-append (number_then v 32) (number_then w 10) ∙ omega (arith, number_then_long v 32, number_then_long w 10)

pub head_text_long : (f c m n : ℕ) → length (board_text f c m ++ count_text n) ≡ 17 + length (decimal f) + length (decimal c) + length (decimal m) + length (decimal n)
unfolding board_text count_text
head_text_long f c m n = simp (length-append, number_then_long) (omega arith)

-- lines of at most so many bytes
module _ (most n : ℕ) (ends : List ℕ) (long : length ends ≡ 2 * n) (each : (i : ℕ) → i < n → length (net_line (get_or ends (2 * i) 0) (get_or ends (2 * i + 1) 0)) ≤ most) where
  from_most : (k i : ℕ) → i + k ≡ n → length (nets_text (drop (2 * i) ends)) ≤ most * k
  unfolding nets_text
  from_most zero i e = rw (drop_of_length-le ends {i = 2 * i} (omega (arith, long))) (omega arith)
  from_most (suc k) i e =
      rw (lines_from n ends long i (omega arith)) (simp length-append (omega (arith, each i (omega arith), from_most k (i + 1) (omega arith))))

  pub nets_most : length (nets_text ends) ≤ most * n
  nets_most = from_most n 0 (omega arith)

-- the longest text of the form
pub form_most : (t : List ℕ) → IsText t → length t ≤ 786457
unfolding text_of
form_most t h = let i = h.in_form in
    let digits : (x : ℕ) → x < 65536 → length (decimal x) ≤ 5 = λ x l. decimal_short 4 x (omega arith) in
    let lines = nets_most 12 h.n h.ends i.nets.long (λ j l. omega (arith, line_long (get_or h.ends (2 * j) 0) (get_or h.ends (2 * j + 1) 0), digits _ (i.nets.small (2 * j)), digits _ (i.nets.small (2 * j + 1)))) in
    let head = head_text_long h.f h.c h.m h.n in
    rw h.is (simp length-append (omega (arith, lines, rw (length-append (board_text h.f h.c h.m) (count_text h.n)) at head, digits h.f i.f_small, digits h.c i.c_small, digits h.m i.m_small, digits h.n i.n_small, i.n_small)))
