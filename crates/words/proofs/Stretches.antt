-- The parts that a call hands back are stretches of what it was lent.
-- Assumes nothing.
use mathlib.Core.Path.{◌≡◌, refl, ap, sym}
use mathlib.Core.List.{List}
use Prim.Native.Nat.{ℕ, ◌-◌}
use native.Mathlib.Nat.{zero-add}
use lib.ListN.{take, drop}
use denote.Ref.{Bor}
use borrow.Rule.Slice.Shared.{by_byte}
use borrow.Rule.Slice.PartAt.{sl_partˢ}
use borrow.Rule.Slice.Prefix.{sl_ptr_pˢ}
use Rattle.words.specs.Lent.{Stretch}

-- the empty start
pub stretch_none : (s : Bor (List ℕ)) → Stretch s 0 0 (sl_ptr_pˢ s 0)
stretch_none s = record { block = refl; start = sym (zero-add _); holds = refl }

-- from `a` to `e`
pub stretch_part : (s : Bor (List ℕ)) (a e n : ℕ) → e - a ≡ n → Stretch s a n (sl_partˢ s (by_byte a s.ref_ptr.1) a e)
stretch_part s a e n h = record { block = refl; start = refl; holds = ap (λ (k : ℕ). take k (drop a s.now)) h }
