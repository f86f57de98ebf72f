-- `search::search` meets its contract.
use Rattle.std.proofs.Common.{Bool, ℕ, arith, rules, ◌∙◌, None, Some}
use borrow.Author.Tests.{tests}
use lib.Dec.{ltb}
use Rattle.laws.specs.Row.{at}
use Rattle.laws.proofs.FirstWhere.{first_where_at_most}
use Rattle.search.proofs.Below.{found_below, unwrap_first}
use Rattle.search.proofs.Counters.{search_settled, fpga_fits, crowded_always, search_over}
use Rattle.search.proofs.search.Goals as goal

pub returns-in_err-v : goal.returns-in_err-v
returns-in_err-v c = let e = search_settled c.args.job.now (at c.args.plan.now) c.in_err-v.ensures in cc

pub returns-in_err-crowded : goal.returns-in_err-crowded
returns-in_err-crowded c =
    let above : ℕ → Bool = λ x. ltb c.width_of-width.result (at c.loads_of-loads.result x) in
    absurd
    (crowded_always c.args.job.now (at c.args.plan.now) _ _ c.loads_of-loads.ensures c.width_of-width.ensures.value c.in_ok-v.ensures
    (found_below above c.args.job.now.head.c _ _ None c.in_err-crowded.ensures.ran (λ k q h. search (rules, tests)) (λ k q h. search (rules, tests))))

pub overflow_cast-result : goal.overflow_cast-result
overflow_cast-result c = omega (arith, fpga_fits c.args.job.now (at c.args.plan.now) c.in_ok-v.v c.in_ok-v.ensures)

pub overflow_cast-result-3 : goal.overflow_cast-result-3
overflow_cast-result-3 c =
    let under : ℕ → Bool = λ x. ltb (at c.loads_of-loads.result x) c.width_of-width.result in
    let found = found_below under c.args.job.now.head.c _ _ c.find-2.result c.find-2.ensures.ran (λ k q h. search (rules, tests)) (λ k q h. search (rules, tests)) in
    omega (arith, c.unwrap_or-room.ensures, unwrap_first under c.args.job.now.head.c found, first_where_at_most under c.args.job.now.head.c, c.args.job.now.well_formed.ranged.c_high)

pub returns : goal.returns
returns c =
    let above : ℕ → Bool = λ x. ltb c.width_of-width.result (at c.loads_of-loads.result x) in
    let under : ℕ → Bool = λ x. ltb (at c.loads_of-loads.result x) c.width_of-width.result in
    let crowded = found_below above c.args.job.now.head.c _ _ (Some c.in_ok-crowded.crowded) c.in_ok-crowded.ensures.ran (λ k q h. search (rules, tests)) (λ k q h. search (rules, tests)) in
    let room = found_below under c.args.job.now.head.c _ _ c.find-2.result c.find-2.ensures.ran (λ k q h. search (rules, tests)) (λ k q h. search (rules, tests)) in
    search_over c.args.job.now (at c.args.plan.now) _ _ c.loads_of-loads.ensures c.width_of-width.ensures.value c.in_ok-v.ensures _ _
    crowded (c.unwrap_or-room.ensures ∙ unwrap_first under c.args.job.now.head.c room)
