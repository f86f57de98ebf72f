-- `spare::left_of` meets its contract.
use Rattle.spare.specs.Spare.{spare_of}
use native.Mathlib.Omega.{arith}
use Rattle.spare.proofs.left_of.Goals as goal

pub returns : goal.returns
unfolding spare_of
returns c = let p = c.args.job.now.well_formed in
    omega (arith, c.limit_of.ensures.value, c.requires.counted.count c.args.v.0 (omega (arith, c.requires.known, p.ranged.f_high)))
