-- The check's answer: of a job that passed, the numbers of its head.
use Rattle.std.specs.Prelude.{Result, Ok, Err}
use Rattle.words.specs.declared.Refusal.{Refusal}
use Rattle.job.specs.declared.Head.{Head}
use Rattle.job.specs.declared.Job.{Job}

abbrev pub heads : Result Job Refusal → Result Head Refusal
heads (Ok job) = Ok job.head
heads (Err r) = Err r
