-- The bytes of letters that are written out.
use mathlib.Core.List as list
use Rattle.std.specs.Prelude.{ℕ}
use Prim.Native.Char.{code}
use Prim.Native.String.{String, [], ◌∷◌}

abbrev pub letters : String → list.List ℕ
letters [] = list.[]
letters (c ∷ s) = list.◌∷◌ (code c) (letters s)
