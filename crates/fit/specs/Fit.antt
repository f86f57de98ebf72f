-- An assignment that is fit for a sheet: refusal 13 of a lent one or 23 of a sheet's, then 24 and 25.
use Rattle.words.specs.declared.Reason.{Reason}
use Rattle.words.specs.declared.Reason.TheVariants as reason
use Rattle.std.specs.Prelude.{ℕ, ◌+◌, Bool, leb}
use Rattle.laws.specs.Sum.{greatest}
use Rattle.words.specs.Verdict.{Verdict, refuse_if, ◌then◌, first_refusal, at_load, at_crossbar}
use Rattle.board.specs.Netlist.{Netlist}
use Rattle.board.specs.Board.{total, InRange, Legal, Balanced}
use Rattle.refusals.specs.Refusals.{range_verdict}
use Rattle.search.specs.Search.{over_at}

-- 24: a load above the width; the lowest FPGA, then the lowest crossbar there
unfoldable pub loads_verdict : Netlist → (ℕ → ℕ) → Verdict
loads_verdict J a = first_refusal (λ v. first_refusal (λ x. refuse_if (over_at J a v x) reason.Load (at_load v x)) J.c) J.f

-- 25: spread above 1; the lowest of c crossbars whose total is 2 or more below the greatest
unfoldable pub low : (ℕ → ℕ) → ℕ → ℕ → Bool
low totals c x = leb (totals x + 2) (greatest totals c)

unfoldable pub spread_verdict : (ℕ → ℕ) → ℕ → Verdict
spread_verdict totals c = first_refusal (λ x. refuse_if (low totals c x) reason.Spread (at_crossbar x)) c

-- 13 or 23, then 24 and 25: an assignment that is fit for a sheet
unfoldable pub fit_verdict : Reason → Netlist → (ℕ → ℕ) → Verdict
fit_verdict k J a = range_verdict k J a then loads_verdict J a then spread_verdict (total J a) J.c

-- an assignment in range, legal and balanced
pub record Fit (J : Netlist) (a : ℕ → ℕ) : Type 0 where
  pub in_range : InRange J a
  pub legal : Legal J a
  pub balanced : Balanced J a
