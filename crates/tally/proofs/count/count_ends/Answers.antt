-- `tally::count::count_ends` meets its contract.
use Rattle.std.proofs.Common.{◌≡◌, ◌<◌, arith, sym, ◌∙◌}
use Rattle.job.specs.Board.{board_of}
use Rattle.laws.proofs.Count.{walk_starts}
use Rattle.tally.proofs.Walks.{few_none, few_pass, few_two, fits_once, fits_twice, ends_pass, ends_next}
use Rattle.tally.proofs.count.count_ends.Goals as goal
use Rattle.tally.proofs.count.count_ends.Goals.{then-picks, else-picks}

pub loop-i-init : goal.loop-i-init
loop-i-init g c = (few_none 256, λ t h. walk_starts _ 256)

pub overflow_add-counts : goal.overflow_add-counts
overflow_add-counts g c = let p = c.args.job.now.well_formed in
    omega (arith, fits_once c.loop-i.invariant.0 (omega (arith, p.ranged.n_high)) c.ends-v.result.0 (omega (arith, p.ranged.f_high)))

pub overflow_add-counts-then-picks : goal.overflow_add-counts-then-picks
overflow_add-counts-then-picks g c = let p = c.args.job.now.well_formed in
    omega (arith, fits_twice c.loop-i.invariant.0 (omega (arith, p.ranged.n_high)) c.ends-v.result.0 c.ends-v.result.1 (omega (arith, p.ranged.f_high)) (omega (arith, p.ranged.f_high)))

pub loop-i-preserved : goal.loop-i-preserved
loop-i-preserved g c =
    let p = c.args.job.now.well_formed in
    let l = c.loop-i in
    elim c.if-picks.branch [
      | then-picks w ↦
          let e = w.ends-v.ensures in
          let first : w.ends-v.result.0 < 256 = omega (arith, p.ranged.f_high) in
          let second : w.ends-v.result.1 < 256 = omega (arith, p.ranged.f_high) in
          rw w.counts-is (
            few_two l.invariant.0 _ _ first second,
            λ t h. ends_next _ t l.i (l.invariant.1 t h) (sym (h l.i c.picks.result (omega arith) c.picks.ensures) ∙ w.if-picks.true) _ _ first second e.first.0 e.second.0,
          )
      | else-picks w ↦ rw w.counts-is (few_pass l.invariant.0, λ t h. ends_pass _ t l.i (l.invariant.1 t h) (sym (h l.i c.picks.result (omega arith) c.picks.ensures) ∙ w.if-picks.false))
    ]

pub returns : goal.returns
returns g c = λ t h. let e : c.loop-i.i ≡ (board_of c.args.job.now).n = omega (arith, c.args.job.now.well_formed.n) in rw e at (c.loop-i.invariant.1 t h)
