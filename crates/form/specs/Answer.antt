-- What the walk of a whole text answers.
use Rattle.std.specs.Prelude.{List, ℕ, take, Result, Ok, Err}
use Rattle.words.specs.declared.Reason.{Reason}
use Rattle.words.specs.declared.Refusal.{Refusal}
use Rattle.form.specs.declared.Formed.{Formed}
use Rattle.form.specs.Breaks.{place_behind, BreaksAs}
use Rattle.form.specs.Walk.{WholeAt}

-- the refusal behind the first k bytes
abbrev pub refused_at : Reason → List ℕ → ℕ → Refusal
refused_at reason t k = record { reason = reason; place = place_behind (take k t) }

-- a text of the form, or where it breaks
abbrev pub FormedBy : Result Formed Refusal → List ℕ → Type 0
FormedBy (Ok formed) t = WholeAt t formed.head
FormedBy (Err r) t = BreaksAs t (Err r)
