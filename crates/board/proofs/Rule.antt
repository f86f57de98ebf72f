-- The test of the round's rule passes exactly where the rule holds; and what the rule gives.
-- Assumes nothing.
use mathlib.Core.Path.{◌≡◌, ap, ap₂, sym, ◌∙◌}
use mathlib.Core.Bool.{Bool, false, cond}
use mathlib.Core.Logic.{◌≢◌, ◌⊎◌, ⊎_elim}
use Prim.Native.Nat.{ℕ, ◌+◌, ◌*◌, ◌/◌, ◌%◌, ◌≤◌, ◌<◌}
use native.Mathlib.Omega.{arith}
use lib.Dec.{eqb}
use borrow.Author.Tests.{ne_eqb}
use Rattle.laws.specs.Test.{Says}
use Rattle.laws.proofs.Cases.{by_two}
use Rattle.laws.proofs.Test.{eqb_says, leb_says, and_says, or_says, implies_says, every_says}
use Rattle.board.specs.Netlist.{Netlist}
use Rattle.board.specs.Board.{load, total, spread, total_excess, InRange}
use Rattle.board.specs.Rule.{differ, OnTwo, Halves, Clauses, Recoloured, on_two_test, moved_test, halves_test, clauses_test, totals_test, rule_test}
use Rattle.board.proofs.Change.{on_two, moved_in_range, total_elsewhere, totals_together, total_excess_less}
use Rattle.board.proofs.Spread.{spread_no_more}

pub on_two_says : (A B x : ℕ) → Says (on_two_test A B x) (OnTwo A B x)
on_two_says A B x = or_says (eqb x A) (eqb x B) (eqb_says x A) (eqb_says x B)

off_two : (A B x : ℕ) → x ≢ A → x ≢ B → on_two_test A B x ≡ false
off_two A B x na nb = rw (ne_eqb x A na, ne_eqb x B nb)

-- one net
module _ (a b : ℕ → ℕ) (A B i : ℕ) where
  moved_on : OnTwo A B (a i) → moved_test a b A B i ≡ on_two_test A B (b i)
  unfolding moved_test
  moved_on t = ap (λ (k : Bool). cond k (on_two_test A B (b i)) (eqb (b i) (a i))) ((on_two_says A B (a i)).1 t)

  moved_off : a i ≢ A → a i ≢ B → moved_test a b A B i ≡ eqb (b i) (a i)
  unfolding moved_test
  moved_off na nb = ap (λ (k : Bool). cond k (on_two_test A B (b i)) (eqb (b i) (a i))) (off_two A B (a i) na nb)

  pub moved_says : Says (moved_test a b A B i) ((OnTwo A B (a i) → OnTwo A B (b i)) × (a i ≢ A → a i ≢ B → b i ≡ a i))
  moved_says = (
    λ e. (
      λ t. (on_two_says A B (b i)).0 (sym (moved_on t) ∙ e),
      λ na nb. (eqb_says (b i) (a i)).0 (sym (moved_off na nb) ∙ e),
    ),
    λ h. ⊎_elim (λ t. moved_on t ∙ (on_two_says A B (b i)).1 (h.0 t)) (λ n. moved_off n.0 n.1 ∙ (eqb_says (b i) (a i)).1 (h.1 n.0 n.1)) (on_two A B (a i)),
  )

-- one FPGA
module _ (m s l r : ℕ) where
  parts : Says (halves_test m s l r)
      (((s ≤ 2 * m → (l ≤ m) × (r ≤ m)) × (2 * m ≤ s → (m ≤ l) × (m ≤ r))) × ((s % 2 ≡ 1 → differ l r ≡ 1) × (s % 2 ≡ 0 → OnTwo 0 2 (differ l r))))
  unfolding halves_test
  parts =
      and_says _ _
      (and_says _ _ (implies_says _ _ (leb_says s (2 * m)) (and_says _ _ (leb_says l m) (leb_says r m)))
      (implies_says _ _ (leb_says (2 * m) s) (and_says _ _ (leb_says m l) (leb_says m r))))
      (and_says _ _ (implies_says _ _ (eqb_says (s % 2) 1) (eqb_says (differ l r) 1)) (implies_says _ _ (eqb_says (s % 2) 0) (on_two_says 0 2 (differ l r))))

  pub halves_says : Says (halves_test m s l r) (Halves m s l r)
  halves_says = (
    λ e. let h = parts.0 e in record { low = h.0.0; high = h.0.1; odd = h.1.0; even = h.1.1 },
    λ h. parts.1 ((h.low, h.high), (h.odd, h.even)),
  )

module _ (J : Netlist) (a b : ℕ → ℕ) (A B : ℕ) where
  clauses_says : (v : ℕ) → Says (clauses_test J a b A B v) (Clauses J a b A B v)
  unfolding clauses_test
  clauses_says v = halves_says (J.width v) (load J a v A + load J a v B) (load J b v A) (load J b v B)

  totals_says : Says (totals_test (total J b A) (total J b B)) ((total J b A ≡ total J b B) ⊎ (total J b A ≡ total J b B + 1))
  unfolding totals_test
  totals_says = on_two_says (total J b B) (total J b B + 1) (total J b A)

  all : Says (rule_test J a b A B)
      ((((i : ℕ) → i < J.n → (OnTwo A B (a i) → OnTwo A B (b i)) × (a i ≢ A → a i ≢ B → b i ≡ a i))
      × ((v : ℕ) → v < J.f → Clauses J a b A B v)) × ((total J b A ≡ total J b B) ⊎ (total J b A ≡ total J b B + 1)))
  unfolding rule_test
  all = and_says _ _ (and_says _ _ (every_says (moved_test a b A B) J.n (moved_says a b A B)) (every_says (clauses_test J a b A B) J.f clauses_says)) totals_says

  pub rule_says : Says (rule_test J a b A B) (Recoloured J a b A B)
  rule_says = (
    λ e. let h = all.0 e in
        record {
          moved = record { stay = λ i l. (h.0.0 i l).1; among = λ i l. (h.0.0 i l).0 };
          clauses = h.0.1;
          totals = h.1;
        },
    λ r. all.1 ((λ i l. (r.moved.among i l, r.moved.stay i l), r.clauses), r.totals),
  )

-- What the rule gives: nothing leaves the board, the excess falls and the spread does not widen.
module _ (J : Netlist) (a b : ℕ → ℕ) (A B : ℕ) (r : Recoloured J a b A B) (la : A < J.c) (lb : B < J.c) where
  pub rule_in_range : InRange J a → InRange J b
  rule_in_range = moved_in_range J a b A B r.moved la lb

  pub rule_excess_less : (v : ℕ) → v < J.f → J.width v < load J a v A → load J a v B < J.width v → total_excess J b < total_excess J a
  rule_excess_less v l o u =
      total_excess_less J a b A B r.moved la lb (λ e. omega (arith, ap (load J a v) e)) r.clauses v l o u

  pub totals_near : (total J b A ≤ total J b B + 1) × (total J b B ≤ total J b A + 1)
  totals_near = ⊎_elim (λ e. (omega arith, omega arith)) (λ e. (omega arith, omega arith)) r.totals

  pub rule_spread_no_more : A ≢ B → spread J b ≤ spread J a
  rule_spread_no_more ne = spread_no_more J a b A B r.moved la lb ne totals_near

-- The new totals are fixed by the old: half of the two together on each, and an odd net on A.
module _ (J : Netlist) (a b : ℕ → ℕ) (A B : ℕ) (r : Recoloured J a b A B) (ne : A ≢ B) where
  pub rule_totals : (total J b A ≡ (total J a A + total J a B + 1) / 2) × (total J b B ≡ (total J a A + total J a B) / 2)
  rule_totals =
      ⊎_elim (λ e. (omega (arith, totals_together J a b A B r.moved ne), omega (arith, totals_together J a b A B r.moved ne)))
      (λ e. (omega (arith, totals_together J a b A B r.moved ne), omega (arith, totals_together J a b A B r.moved ne))) r.totals

-- so results of starts with the same totals have the same totals
module _ (J : Netlist) (a a' b b' : ℕ → ℕ) (A B : ℕ) (r : Recoloured J a b A B) (r' : Recoloured J a' b' A B) (ne : A ≢ B) where
  pub rule_totals_once : total J a A ≡ total J a' A → total J a B ≡ total J a' B → (x : ℕ) → total J a x ≡ total J a' x → total J b x ≡ total J b' x
  rule_totals_once p q =
      by_two (λ x. total J a x ≡ total J a' x → total J b x ≡ total J b' x) A B
      (λ _. (rule_totals J a b A B r ne).0 ∙ ap (λ (k : ℕ). (k + 1) / 2) (ap₂ ◌+◌ p q) ∙ sym (rule_totals J a' b' A B r' ne).0)
      (λ _. (rule_totals J a b A B r ne).1 ∙ ap (λ (k : ℕ). k / 2) (ap₂ ◌+◌ p q) ∙ sym (rule_totals J a' b' A B r' ne).1)
      (λ x na nb e. total_elsewhere J a b A B r.moved x na nb ∙ e ∙ sym (total_elsewhere J a' b' A B r'.moved x na nb))
