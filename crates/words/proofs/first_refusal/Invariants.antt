-- `words::first_refusal` meets its contract.
use Rattle.std.proofs.Common.{◌≡◌, ℕ}
use Rattle.std.specs.Prelude.{Ok}
use Rattle.words.specs.Verdict.{Verdict, first_refusal}
use Rattle.words.specs.Checked.{Checks}
use Rattle.words.proofs.first_refusal.Given as goal

abbrev pub invariant-loop-i : goal.invariant-loop-i
invariant-loop-i g l = (h : ℕ → Verdict) → Checks (goal.F-post g l.check) h l.n → first_refusal h l.i ≡ Ok tt
