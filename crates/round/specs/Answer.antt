-- What one round answers: what it was made on, or none where the assignment was legal; or a refusal.
use Rattle.std.specs.Prelude.{Option, Result}
use Rattle.words.specs.declared.Refusal.{Refusal}
use Rattle.search.specs.declared.Over.{Over}

abbrev pub Round : Type 0
Round = Result (Option Over) Refusal
