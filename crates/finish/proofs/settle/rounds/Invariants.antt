-- `finish::settle::rounds`: as many rounds as were made form a chain.
use Rattle.finish.specs.Finish.{Chained}
use Rattle.finish.proofs.settle.rounds.Given as goal

abbrev pub invariant-loop-made : goal.invariant-loop-made
invariant-loop-made l = Chained l.job l.initial.plan l.plan l.initial.s l.s l.made
