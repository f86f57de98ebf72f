-- `job_writer::check_ends` meets its contract.
use Rattle.std.proofs.Common.{rules}
use Rattle.job.specs.Job.{head_long}
use Rattle.job.specs.Check.{net_verdict, nets_verdict}
use Rattle.job_writer.specs.Write.{first_of, second_of}
use Rattle.job_writer.proofs.check_ends.Goals as goal

pub returns : goal.returns
unfolding nets_verdict
returns c = let ends = c.args.ends.now in
    c.first_refusal.ensures (λ i. net_verdict c.args.f head_long i (first_of ends i) (second_of ends i)) (λ i b l q. search rules)
