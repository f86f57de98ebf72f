-- What finish and plan answer: the rounds and the excess before the first; or a refusal.
use Rattle.std.specs.Prelude.{Result}
use Rattle.words.specs.declared.Refusal.{Refusal}
use Rattle.finish.specs.declared.Rounds.{Rounds}

abbrev pub Finish : Type 0
Finish = Result Rounds Refusal
