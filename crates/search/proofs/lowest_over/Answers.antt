-- `search::lowest_over` meets its contract.
use Rattle.std.proofs.Common.{arith, ◌∙◌}
use Rattle.laws.specs.Row.{at}
use Rattle.search.proofs.Counters.{lowest_starts, lowest_fits, lowest_end, lowest_next, lowest_all}
use Rattle.search.proofs.lowest_over.Goals as goal

pub loop-x-init : goal.loop-x-init
loop-x-init c = lowest_starts c.args.job.now _

pub first_over-requires : goal.first_over-requires
first_over-requires c =
    let l = c.loop-x in
    let job = c.args.job.now in
    omega (arith, c.unwrap_or-end.ensures, lowest_end job (at c.args.plan.now) l.x l.invariant, lowest_fits job (at c.args.plan.now) l.x)

pub loop-x-preserved : goal.loop-x-preserved
loop-x-preserved c =
    let l = c.loop-x in
    c.or-lowest.ensures ∙ lowest_next c.args.job.now _ l.x l.invariant _ c.unwrap_or-end.ensures c.loads_on.ensures _ c.first_over.ensures

pub returns : goal.returns
returns c = lowest_all c.args.job.now _ c.loop-x.x c.loop-x.invariant (omega arith)
