-- What each part of the audit says where it is done, and what the code finds it by.
-- Assumes nothing.
use Rattle.words.specs.declared.Reason.TheVariants as reason
use mathlib.Core.Path.{◌≡◌, ap, ◌∙◌}
use mathlib.Core.Logic.{◌↔◌}
use mathlib.Core.List.{List}
use Prim.Native.Nat.{ℕ, ◌+◌, ◌-◌, ◌*◌, ◌/◌, ◌≤◌, ◌<◌}
use lib.ListN.{length, take, drop}
use borrow.Author.Tests.{eq-eqb, eqb-true, not-false}
use Rattle.laws.specs.Row.{at}
use Rattle.laws.specs.Count.{Counted}
use Rattle.std.specs.Prelude.{Ok, not, eqb}
use Rattle.words.specs.Verdict.{refuse_if, ◌then◌, at_byte, at_crossbar, of_length}
use Rattle.words.specs.Number.{word}
use Rattle.words.proofs.Bytes.{word_drop, lent_to_end}
use Rattle.words.proofs.Order.{first_same, tests_say, then_first, then_second, then_done, then_next, passed, passes}
use Rattle.board.specs.Netlist.{Netlist}
use Rattle.board.specs.Board.{total, Alike}
use Rattle.job.specs.Job.{nets_at, c_in}
use Rattle.sheet.specs.Sheet.{totals_count_at, sheet_length}
use Rattle.fit.proofs.Parts.{all_totals, front_long, front_counts}
use Rattle.audit.specs.Audit.{unlike, heads_verdict, wrong, totals_verdict, numbers_verdict, against_verdict}

-- ---- 21

module _ (job sheet : List ℕ) where
  pub right_length : length sheet ≡ sheet_length job → against_verdict job sheet ≡ (heads_verdict job sheet then numbers_verdict job sheet)
  unfolding against_verdict
  right_length e = then_next _ _ (passes _ reason.SheetLength _ (rw (eq-eqb (length sheet) (sheet_length job) e)))

  -- where the length was found before
  pub length_is : {n : ℕ} → n ≡ sheet_length job → refuse_if (not (eqb (length sheet) n)) reason.SheetLength (of_length (length sheet)) ≡ Ok tt → length sheet ≡ sheet_length job
  length_is e h = eqb-true _ _ (not-false _ (passed _ _ _ h)) ∙ e

-- ---- 22

pub heads_say : (job sheet : List ℕ) → (heads_verdict job sheet ≡ Ok tt) ↔ (((k : ℕ) → k < nets_at job / 2 → word sheet (2 * k) ≡ word job (2 * k)) × (word sheet (totals_count_at job) ≡ c_in job))
unfolding heads_verdict unlike
heads_say job sheet = (
  λ h. (
    λ k l. eqb-true _ _ (not-false _ ((tests_say (unlike job sheet) reason.SheetHead (λ k. at_byte (2 * k)) (nets_at job / 2)).0 (then_first _ _ h) k l)),
    eqb-true _ _ (not-false _ (passed _ reason.SheetHead _ (then_second _ _ h))),
  ),
  λ h. then_done _ _ ((tests_say (unlike job sheet) reason.SheetHead (λ k. at_byte (2 * k)) (nets_at job / 2)).1 (λ k l. rw (eq-eqb _ _ (h.0 k l)))) (passes _ reason.SheetHead _ (rw (eq-eqb _ _ h.1))),
)

-- ---- 26

module _ (J : Netlist) (a : ℕ → ℕ) where
  pub totals_say : (written : ℕ → ℕ) → (totals_verdict (total J a) written J.c ≡ Ok tt) ↔ ((x : ℕ) → x < J.c → written x ≡ total J a x)
  unfolding totals_verdict wrong
  totals_say written = (
    λ h x l. eqb-true _ _ (not-false _ ((tests_say (wrong (total J a) written) reason.WrittenTotal at_crossbar J.c).0 h x l)),
    λ h. (tests_say (wrong (total J a) written) reason.WrittenTotal at_crossbar J.c).1 (λ x l. rw (eq-eqb _ _ (h x l))),
  )

  -- by totals that were counted, and by what is written from byte `start` on
  module _ {totals : List ℕ} (counted : Counted totals 128 (total J a)) (c : ℕ) (few : c ≤ 128) (e : c ≡ J.c) where
    pub counted_totals : (sheet : List ℕ) (start : ℕ)
        → totals_verdict (at (take c totals)) (λ x. word (take (length sheet - start) (drop start sheet)) (2 * x)) (length (take c totals)) ≡ totals_verdict (total J a) (λ x. word sheet (start + 2 * x)) J.c
    unfolding totals_verdict wrong
    counted_totals sheet start =
        let written = λ (x : ℕ). word sheet (start + 2 * x) in
        rw (front_long J a counted c few e, lent_to_end sheet start)
        (first_same _ _ c (λ x l. rw (front_counts J a counted c few e x l, word_drop start sheet (2 * x))) ∙ ap (totals_verdict (total J a) written) e)

-- of assignments that agree on every net
module _ (J : Netlist) (a b : ℕ → ℕ) (e : Alike J a b) where
  pub totals_alike : (written : ℕ → ℕ) → totals_verdict (total J a) written J.c ≡ totals_verdict (total J b) written J.c
  totals_alike written = rw (all_totals J a b e)
