-- Refusals 12 and 13: the lowest number that is refused, and what it means that none is.
-- Assumes nothing.
use Rattle.words.specs.declared.Reason.{Reason}
use Rattle.words.specs.declared.Reason.TheVariants as reason
use mathlib.Core.Path.{◌≡◌}
use mathlib.Core.Bool.{Bool, not}
use mathlib.Core.Logic.{◌↔◌}
use Prim.Native.Nat.{ℕ}
use lib.Dec.{ltb}
use borrow.Author.Tests.{lt-ltb, le-ltb, ltb-true, ltb-false, not-false}
use Rattle.laws.specs.Lowest.{first_where, somewhere}
use Rattle.std.specs.Prelude.{Ok}
use Rattle.words.specs.Verdict.{refuse_if, at_net, at_fpga}
use Rattle.words.proofs.Order.{tests_say}
use Rattle.words.proofs.LowestRefusal.{lowest_refusal}
use Rattle.board.specs.Netlist.{Netlist}
use Rattle.board.specs.Board.{degree, limit, usable, InRange, WithinLimits}
use Rattle.refusals.specs.Refusals.{degree_verdict, range_verdict}

-- ---- refusal 12

-- FPGA v has more nets than the limit
unfoldable pub over : Netlist → ℕ → Bool
over J v = ltb (limit J v) (degree J v)

pub degree_lowest : (J : Netlist) → degree_verdict J ≡ refuse_if (somewhere (over J) J.f) reason.Degree (at_fpga (first_where (over J) J.f))
unfolding degree_verdict over
degree_lowest J = lowest_refusal (over J) reason.Degree at_fpga J.f

pub degrees_say : (J : Netlist) → (degree_verdict J ≡ Ok tt) ↔ WithinLimits J
unfolding degree_verdict over
degrees_say J = (
  λ p v l. ltb-false _ _ ((tests_say (over J) reason.Degree at_fpga J.f).0 p v l),
  λ h. (tests_say (over J) reason.Degree at_fpga J.f).1 (λ v l. le-ltb _ _ (h v l)),
)

-- ---- refusal 13, and 23 in a sheet: for reason k

-- net i has a crossbar that cannot be used
unfoldable pub beyond : Netlist → (ℕ → ℕ) → ℕ → Bool
beyond J a i = not (usable J (a i))

pub range_says : (J : Netlist) (a : ℕ → ℕ) (k : Reason) → (range_verdict k J a ≡ Ok tt) ↔ InRange J a
unfolding range_verdict beyond usable
range_says J a k = (
  λ p i l. ltb-true _ _ (not-false _ ((tests_say (beyond J a) k at_net J.n).0 p i l)),
  λ h. (tests_say (beyond J a) k at_net J.n).1 (λ i l. rw (lt-ltb (a i) J.c (h i l))),
)
