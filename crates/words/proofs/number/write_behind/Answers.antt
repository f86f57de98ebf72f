-- `words::number::write_behind` meets its contract.
use Rattle.words.proofs.Bytes.{put_to_end, lent_to_end}
use Rattle.words.specs.Number.{bytes}
use Rattle.words.specs.Lent.{onto}
use lib.ListN.{take}
use Prim.Native.Nat.{ℕ}
use mathlib.Core.List.{List, ◌++◌}
use mathlib.Core.Path.{ap, ◌∙◌}
use Rattle.words.proofs.number.write_behind.Goals as goal

pub returns : goal.returns
returns c = let a = c.args in
    put_to_end a.room.now c.write_list.new.room a.start
    ∙ ap (λ (t : List ℕ). take a.start a.room.now ++ t) (c.write_list.ensures ∙ ap (onto (bytes a.xs.now)) (lent_to_end a.room.now a.start))
