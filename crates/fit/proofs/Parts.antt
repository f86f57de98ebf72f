-- What each part says where it is done, and what the code finds it by.
-- Assumes nothing.
use Rattle.words.specs.declared.Reason.{Reason}
use Rattle.words.specs.declared.Reason.TheVariants as reason
use mathlib.Core.Path.{◌≡◌, ap, fun_ext, ◌∙◌}
use mathlib.Core.Logic.{◌↔◌}
use mathlib.Core.List.{List}
use Prim.Native.Nat.{ℕ, ◌+◌, ◌≤◌, ◌<◌}
use native.Mathlib.Omega.{arith}
use lib.ListN.{length, take}
use lib.Seq.{length-take-le, get_or-take}
use borrow.Author.Tests.{lt-leb, leb-false}
use Rattle.laws.specs.Sum.{greatest}
use Rattle.laws.specs.Row.{at}
use Rattle.laws.specs.Count.{Counted}
use Rattle.laws.proofs.Greatest.{greatest_ge, greatest_le, greatest_same}
use Rattle.std.specs.Prelude.{Ok}
use Rattle.words.specs.Verdict.{refuse, refuse_if, first_refusal, at_load, at_crossbar}
use Rattle.words.proofs.Order.{first_done, first_all, first_same, first_stops, tests_say, tests_stop, then_first, then_second, then_done}
use Rattle.board.specs.Netlist.{Netlist}
use Rattle.board.specs.Board.{total, Legal, Balanced, Alike}
use Rattle.board.proofs.Excess.{legal_within, within_legal}
use Rattle.board.proofs.Spread.{balanced_near, near_balanced}
use Rattle.board.proofs.Alike.{load_alike, total_alike}
use Rattle.refusals.specs.Refusals.{range_verdict}
use Rattle.refusals.proofs.Faults.{range_says}
use Rattle.search.specs.Search.{over_at, LowestOver}
use Rattle.search.proofs.Tests.{over_says, over_not}
use Rattle.fit.specs.Fit.{loads_verdict, low, spread_verdict, fit_verdict, Fit}

module _ (J : Netlist) (a : ℕ → ℕ) where
  -- ---- 24

  pub loads_say : (loads_verdict J a ≡ Ok tt) ↔ Legal J a
  unfolding loads_verdict
  loads_say = (
    λ h. within_legal J a (λ v x lv lx. (over_not J a v x).0 ((tests_say (over_at J a v) reason.Load (at_load v) J.c).0 (first_done _ J.f h v lv) x lx)),
    λ h. first_all _ J.f (λ v lv. (tests_say (over_at J a v) reason.Load (at_load v) J.c).1 (λ x lx. (over_not J a v x).1 (legal_within J a h v x lv lx))),
  )

  -- the lowest that the search names
  pub loads_stop : (v A : ℕ) → LowestOver J a v A → loads_verdict J a ≡ refuse reason.Load (at_load v A)
  unfolding loads_verdict
  loads_stop v A w =
      first_stops (λ v. first_refusal (λ x. refuse_if (over_at J a v x) reason.Load (at_load v x)) J.c) v J.f _
      (first_all _ v (λ u lu. (tests_say (over_at J a u) reason.Load (at_load u) J.c).1 (λ x lx. (over_not J a u x).1 (w.lower_fpgas u x lu lx))))
      (tests_stop (over_at J a v) reason.Load (at_load v) A J.c ((tests_say (over_at J a v) reason.Load (at_load v) A).1 (λ x lx. (over_not J a v x).1 (w.lower_crossbars x lx))) ((over_says J a v A).1 w.above) w.crossbar)
      w.fpga

  -- ---- 25

  spread_says : (spread_verdict (total J a) J.c ≡ Ok tt) ↔ Balanced J a
  unfolding spread_verdict low
  spread_says = (
    λ h. near_balanced J a (λ x y lx ly.
        let top : greatest (total J a) J.c < total J a y + 2 = leb-false _ _ ((tests_say (low (total J a) J.c) reason.Spread at_crossbar J.c).0 h y ly) in
        omega (arith, greatest_ge (total J a) x J.c lx)),
    λ h. (tests_say (low (total J a) J.c) reason.Spread at_crossbar J.c).1 (λ x lx.
        lt-leb (total J a x + 2) (greatest (total J a) J.c) (omega (arith, greatest_le (total J a) (total J a x + 1) J.c (λ y ly. balanced_near J a h y x ly lx)))),
  )

  -- ---- 13 or 23, then 24 and 25

  pub fit_says : (k : Reason) → (fit_verdict k J a ≡ Ok tt) ↔ Fit J a
  unfolding fit_verdict
  fit_says k = (
    λ h. let rest = then_second _ _ h in
        record { in_range = (range_says J a k).0 (then_first _ _ h); legal = loads_say.0 (then_first _ _ rest); balanced = spread_says.0 (then_second _ _ rest) },
    λ h. then_done _ _ ((range_says J a k).1 h.in_range) (then_done _ _ (loads_say.1 h.legal) (spread_says.1 h.balanced)),
  )

  -- ---- 25 by totals that were counted

  module _ {totals : List ℕ} (counted : Counted totals 128 (total J a)) (c : ℕ) (few : c ≤ 128) (e : c ≡ J.c) where
    pub front_long : length (take c totals) ≡ c
    front_long = length-take-le c totals (omega (arith, counted.long))

    pub front_counts : (x : ℕ) → x < c → at (take c totals) x ≡ total J a x
    front_counts x l = get_or-take c totals x 0 l ∙ counted.count x (omega arith)

    pub counted_spread : spread_verdict (at (take c totals)) (length (take c totals)) ≡ spread_verdict (total J a) J.c
    unfolding spread_verdict low
    counted_spread =
        ap (spread_verdict (at (take c totals))) front_long
        ∙ first_same _ _ c (λ x l. rw (front_counts x l, greatest_same (at (take c totals)) (total J a) c front_counts))
        ∙ ap (spread_verdict (total J a)) e

-- ---- of assignments that agree on every net

module _ (J : Netlist) (a b : ℕ → ℕ) (e : Alike J a b) where
  pub all_totals : total J a ≡ total J b
  all_totals = fun_ext (total_alike J a b e)

  range_alike : (k : Reason) → range_verdict k J a ≡ range_verdict k J b
  unfolding range_verdict
  range_alike k = first_same _ _ J.n (λ i l. rw (e i l))

  loads_alike : loads_verdict J a ≡ loads_verdict J b
  unfolding loads_verdict over_at
  loads_alike = first_same _ _ J.f (λ v _. first_same _ _ J.c (λ x _. rw (load_alike J a b e v x)))

  pub fit_alike : (k : Reason) → fit_verdict k J a ≡ fit_verdict k J b
  unfolding fit_verdict
  fit_alike k = rw (range_alike k, loads_alike, all_totals)
