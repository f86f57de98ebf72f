-- How long a text is.
-- Assumes nothing.
use mathlib.Core.List.{List}
use Prim.Native.Nat.{ℕ, zero, suc, ◌+◌, ◌*◌, ◌≤◌, ◌<◌}
use native.Mathlib.Omega.{arith}
use lib.ListN.{length, length-append}
use Rattle.laws.specs.Row.{at}
use Rattle.text.specs.Text.{each}
use Rattle.text.specs.Forms.{spaced, line}
use Rattle.text.proofs.Decimals.{decimal_short}

-- numbers below 10,000 have at most four digits, and numbers of 64 bits at most twenty
pub spaced_short : (n : ℕ) → n < 10000 → length (spaced n) ≤ 5
unfolding spaced
spaced_short n h = omega (arith, decimal_short 3 n h)

pub spaced_any : (n : ℕ) → n < 18446744073709551616 → length (spaced n) ≤ 21
unfolding spaced
spaced_any n h = omega (arith, decimal_short 19 n (omega arith))

pub each_short : (f : ℕ → List ℕ) (k n : ℕ) → ((i : ℕ) → i < n → length (f i) ≤ k) → length (each f n) ≤ k * n
unfolding each
each_short f k zero h = omega arith
each_short f k (suc n) h = simp length-append (omega (arith, each_short f k n (λ i l. h i (omega arith)), h n (omega arith)))

pub line_short : (w ns : List ℕ) → ((i : ℕ) → i < length ns → at ns i < 10000) → length (line w ns) ≤ length w + 5 * length ns + 1
unfolding line
line_short w ns h =
    simp length-append (omega (arith, each_short (λ i. spaced (at ns i)) 5 (length ns) (λ i l. spaced_short (at ns i) (h i l))))
