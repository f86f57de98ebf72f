-- How long the line of a refusal is.
-- Assumes nothing.
use Prim.Native.Nat.{◌≤◌}
use native.Mathlib.Omega.{arith}
use lib.ListN.{length, length-append}
use Rattle.std.specs.Prelude.{Err}
use Rattle.words.specs.declared.Refusal.{Refusal}
use Rattle.lines.specs.Lines.{verdict_text, refusal_line}

pub refusal_short : (r : Refusal) → length (verdict_text (Err r)) ≤ 63 → length (refusal_line r) ≤ 71
unfolding refusal_line
refusal_short r h = simp length-append (omega (arith, simp length-append at h))
