-- `job::well_formed::check_nets` meets its contract.
use Rattle.std.proofs.Common.{rules}
use Rattle.job.specs.Job.{first_in, second_in}
use Rattle.job.specs.Check.{net_verdict, nets_verdict}
use Rattle.job.proofs.well_formed.check_nets.Goals as goal

pub returns : goal.returns
unfolding nets_verdict
returns c = let j = c.args.job.now in
    let h = c.args.head in
    c.first_refusal.ensures (λ i. net_verdict h.f h.start i (first_in j i) (second_in j i)) (λ i b l q. search rules)
