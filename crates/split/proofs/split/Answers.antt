-- `split::split` meets its contract: its two stages, one after the other, in the four parts of the scratch. Assumes nothing.
use mathlib.Core.List.{[]}
use mathlib.Core.Path.{◌∙◌}
use native.Mathlib.Omega.{arith}
use Rattle.scratch.specs.Scratch.{region}
use Rattle.split.proofs.Parting.{again_long, twice_long, twice_beyond}
use Rattle.split.proofs.Halving.{colour_asked, halved}
use Rattle.split.proofs.split.Goals as goal

pub colour-requires : goal.colour-requires
colour-requires c =
    let e = c.split_at_mut-ends.ensures in
    let o = c.orient.auto in
    colour_asked _ _ c.requires _ _ e.front_len e.by_index.0 o.ends c.orient.ensures _ _ c.split_at.ensures.front c.split_at.ensures.back _ _ _
    (again_long _ _ [] _ _ o.mates (omega arith) (omega arith))
    (again_long _ _ [] _ _ o.others (omega arith) (omega arith))
    (again_long _ _ [] _ _ o.labels (omega arith) (omega arith))

pub returns : goal.returns
returns c =
    let e = c.split_at_mut-ends.ensures in
    let m = c.split_at_mut-mates.ensures in
    let n = c.split_at_mut-others.ensures in
    let o = c.orient.auto in
    let w = c.colour.auto in
    halved _ _ c.requires _ _ e.front_len e.by_index.0 o.ends c.orient.ensures _ _ c.split_at.ensures.front c.split_at.ensures.back
    _ _ _ c.colour.ensures
    (twice_long _ _ _ _ _ o.mates (omega arith) (omega arith) w.out ∙ m.front_len)
    (twice_long _ _ _ _ _ o.others (omega arith) (omega arith) w.into ∙ n.front_len)
    _ (w.labels ∙ again_long _ _ [] _ _ o.labels (omega arith) (omega arith))
    _ _ _ _ _ e.value m.value n.value m.front_len n.front_len
    (twice_long _ _ _ _ _ o.labels (omega arith) (omega arith) w.labels)
    (twice_beyond _ _ _ _ _ o.labels (omega arith) (omega arith) w.labels region (omega arith))
