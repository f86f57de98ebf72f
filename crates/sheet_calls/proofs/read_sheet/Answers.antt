-- `sheet_calls::read_sheet` meets its contract.
use Rattle.std.proofs.Common.{rules}
use native.Mathlib.Omega.{arith}
use mathlib.Core.Path.{ap, sym, ◌∙◌}
use borrow.Author.Tests.{ltb-false}
use Rattle.words.specs.Verdict.{◌then◌, verdict_of}
use Rattle.words.proofs.Order.{passed}
use Rattle.audit.specs.Audit.{read_sheet_verdict}
use Rattle.audit.proofs.Agree.{audited}
use Rattle.sheet_calls.proofs.read_sheet.Goals as goal

pub returns-in_err-audited : goal.returns-in_err-audited
unfolding read_sheet_verdict ◌then◌
returns-in_err-audited c = search rules

pub returns-in_err-refuse_if : goal.returns-in_err-refuse_if
unfolding read_sheet_verdict ◌then◌
returns-in_err-refuse_if c = search rules

pub numbers_of-requires-clause-sheet_is_long : goal.numbers_of-requires-clause-sheet_is_long
numbers_of-requires-clause-sheet_is_long c =
    let long = (audited _ _ (sym c.audit_job.ensures.verdict ∙ ap verdict_of c.in_ok-audited.was)).long in
    rw c.in_ok-audited.ensures.bytes (omega arith)

pub numbers_of-requires-clause-every_net : goal.numbers_of-requires-clause-every_net
numbers_of-requires-clause-every_net c = ltb-false _ _ (passed _ _ _ (sym c.refuse_if.ensures ∙ c.in_ok-refuse_if.was))

pub returns : goal.returns
unfolding read_sheet_verdict ◌then◌
returns c = search rules
