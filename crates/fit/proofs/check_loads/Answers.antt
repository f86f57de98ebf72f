-- `fit::check_loads` meets its contract.
use mathlib.Core.Path.{sym, ◌∙◌}
use Rattle.search.proofs.Answers.{settled-legal, over-lowest}
use Rattle.fit.proofs.Parts.{loads_say, loads_stop}
use Rattle.fit.proofs.check_loads.Goals as goal

pub returns-in-None : goal.returns-in-None
returns-in-None c = sym ((loads_say _ _).1 ((settled-legal _ _).0 (sym c.search.ensures ∙ c.in-None.is)))

pub returns-in-Some : goal.returns-in-Some
returns-in-Some c = sym (loads_stop _ _ _ _ (over-lowest _ _ _ _ _ (sym c.search.ensures ∙ c.in-Some.is)))
