-- The theorem: every row of the table holds, by evaluation of the definitions; of a text by the laws of its form.
-- Assumes nothing.
use mathlib.Core.Path.{refl}
use Prim.Native.Nat.{ℕ}
use lib.Dec.{eqb}
use Rattle.laws.specs.Sum.{sum, greatest}
use Rattle.laws.specs.Row.{row}
use Rattle.laws.specs.Lowest.{first_where}
use Rattle.laws.specs.Test.{every}
use Rattle.words.specs.declared.Reason.TheVariants as reason
use Rattle.words.specs.Number.{word}
use Rattle.words.specs.Verdict.{refuse_if, ◌then◌, first_refusal}
use Rattle.job.specs.Job.{nets_at}
use Rattle.job.specs.Check.{short_verdict, count_verdict, outside, ranges_verdict, head_verdict, length_verdict, net_verdict, nets_verdict, job_verdict}
use Rattle.job_writer.specs.Write.{job_of}
use Rattle.board.specs.Board.{ends_at, degree, load, total, excess, total_excess, usable, deal, limit}
use Rattle.board.specs.Rule.{differ, moved_test, halves_test, clauses_test, totals_test, rule_test}
use Rattle.search.specs.Search.{over_at, room_at, over_fpga, fpga_of, crowded_of, room_of, search_of}
use Rattle.refusals.specs.Refusals.{room_verdict, degree_verdict, range_verdict}
use Rattle.refusals.specs.Start.{plan_verdict, round_verdict}
use Rattle.finish.specs.Plan.{dealt_up_to}
use Rattle.sheet.specs.Sheet.{sheet_of}
use Rattle.fit.specs.Fit.{loads_verdict, low, spread_verdict, fit_verdict}
use Rattle.audit.specs.Audit.{
  unlike,
  heads_verdict,
  wrong,
  totals_verdict,
  numbers_verdict,
  against_verdict,
  audit_verdict,
  lent_verdict,
  write_sheet_verdict,
}
use Rattle.cases.specs.Table.{table, rows_of}
use Rattle.cases.specs.Holds.{Holds, AllHold}
use Rattle.cases.proofs.Ways.{each_kept}
use Rattle.cases.proofs.Texts.{case_two, board_four, leading_zero, too_large, carriage_return, too_many, no_line, two_spaces, no_newline, one_line_more}

-- one row and the rest
infixr 5 ◌and◌
◌and◌ : {A B : Type 0} → A → B → A × B
◌and◌ a b = (a, b)

-- a line for each row
pub table_holds : AllHold table
unfolding sum greatest row first_where every word refuse_if ◌then◌ first_refusal nets_at short_verdict count_verdict outside ranges_verdict head_verdict
    length_verdict net_verdict nets_verdict job_verdict job_of ends_at degree load total excess total_excess usable deal limit differ moved_test halves_test
    clauses_test totals_test rule_test degree_verdict range_verdict over_at room_at over_fpga fpga_of crowded_of room_of search_of room_verdict plan_verdict
    round_verdict dealt_up_to sheet_of unlike heads_verdict loads_verdict low spread_verdict wrong totals_verdict fit_verdict numbers_verdict against_verdict
    audit_verdict lent_verdict write_sheet_verdict
table_holds =
    (refl, refl, refl, refl, refl)
    and (refl, refl, refl, refl, refl)
    and refl
    and (refl, refl, refl)
    and (refl, refl, refl)
    and (refl, refl)
    and refl
    and (refl, refl, refl)
    and (refl, refl, refl)
    and refl
    and refl
    and refl
    and refl
    and (refl, tt, refl and refl and refl and refl and tt)
    and (refl, refl)
    and (refl, (refl, refl) and (refl, refl) and (refl, refl) and (refl, refl) and tt, refl and refl and refl and refl)
    and (refl, tt, refl and refl and refl and refl and refl and refl and tt)
    and (refl, (refl, refl) and (refl, refl) and (refl, refl) and (refl, refl) and (refl, refl) and (refl, refl) and tt)
    and (refl, refl, refl)
    and (refl, refl, refl)
    and (refl, refl, refl, refl, refl)
    and (refl, refl, refl)
    and (refl, refl, refl)
    and refl
    and (refl, refl, refl)
    and (refl, refl, refl)
    and (refl, refl, refl)
    and case_two
    and (reason.TextBreaks, refl, board_four)
    and (reason.TextBreaks, refl, leading_zero)
    and (reason.TextBreaks, refl, too_large)
    and (reason.TextBreaks, refl, carriage_return)
    and (reason.TextBreaks, refl, too_many)
    and (reason.TextBreaks, refl, no_line)
    and (reason.TextBreaks, refl, two_spaces)
    and (reason.TextBreaks, refl, no_newline)
    and (reason.TextGoesOn, refl, one_line_more)
    and tt

-- so the rows of each case do
pub case_holds : (k : ℕ) → AllHold (rows_of k)
case_holds k = each_kept (λ r. eqb r.0 k) (λ r. Holds r.1) table table_holds
