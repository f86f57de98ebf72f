-- `tally::count::count_nets` meets its contract.
use Rattle.std.proofs.Common.{◌≡◌, arith, ◌∙◌}
use Rattle.laws.proofs.Count.{walk_starts}
use Rattle.tally.proofs.Walks.{few_none, few_pass, few_one, fits_once, nets_pass, nets_next}
use Rattle.tally.proofs.count.count_nets.Goals as goal
use Rattle.tally.proofs.count.count_nets.Goals.{then-picks, else-picks}

pub loop-i-init : goal.loop-i-init
loop-i-init g c = (few_none 128, λ f h. walk_starts _ 128)

pub overflow_add-counts : goal.overflow_add-counts
overflow_add-counts g c = omega (arith, fits_once c.loop-i.invariant.0 (omega arith) _ (c.requires.in_range c.loop-i.i (omega arith)))

pub loop-i-preserved : goal.loop-i-preserved
loop-i-preserved g c =
    let l = c.loop-i in
    let low = c.requires.in_range l.i (omega arith) in
    elim c.if-picks.branch [
      | then-picks w ↦
          rw w.counts-is
          (few_one l.invariant.0 _ low, λ f h. nets_next _ f l.i (l.invariant.1 f h) (h l.i c.picks.result (omega arith) c.picks.ensures ∙ rw w.if-picks.true) low)
      | else-picks w ↦
          rw w.counts-is
          (few_pass l.invariant.0, λ f h. nets_pass _ f l.i (l.invariant.1 f h) (h l.i c.picks.result (omega arith) c.picks.ensures ∙ rw w.if-picks.false))
    ]

pub returns : goal.returns
returns g c = λ f h. let e : c.loop-i.i ≡ c.args.n = omega arith in rw e at (c.loop-i.invariant.1 f h)
