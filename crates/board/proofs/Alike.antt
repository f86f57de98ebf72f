-- Loads decide the excess. Assignments that agree on every net have the same loads, totals, excess and spread, and obey the rule alike.
-- Assumes nothing.
use mathlib.Core.Path.{◌≡◌, ap, sym, subst, fun_ext, ◌∙◌}
use Prim.Native.Nat.{ℕ, ◌-◌, ◌<◌}
use native.Mathlib.Omega.{arith}
use lib.Dec.{eqb}
use Rattle.laws.specs.Sum.{sum, when, greatest, least}
use Rattle.laws.proofs.Sum.{sum_same}
use Rattle.board.specs.Netlist.{Netlist}
use Rattle.board.specs.Board.{ends_at, load, total, spread, excess, total_excess, InRange, Alike}
use Rattle.board.specs.Rule.{OnTwo, Recoloured}

pub alike_back : (J : Netlist) (a b : ℕ → ℕ) → Alike J a b → Alike J b a
alike_back J a b e i l = sym (e i l)

-- loads that agree at every FPGA and crossbar
pub excess_by_loads : (J : Netlist) (a b : ℕ → ℕ) → ((v x : ℕ) → v < J.f → x < J.c → load J a v x ≡ load J b v x) → total_excess J a ≡ total_excess J b
unfolding total_excess excess
excess_by_loads J a b e =
    sum_same (excess J a) (excess J b) J.f (λ v lv.
    sum_same (λ x. load J a v x - J.width v) (λ x. load J b v x - J.width v) J.c (λ x lx. ap (λ (k : ℕ). k - J.width v) (e v x lv lx)))

module _ (J : Netlist) (a b : ℕ → ℕ) (e : Alike J a b) where
  -- of any amounts g by net
  amount_alike : (g : ℕ → ℕ) (x : ℕ) → sum (λ i. when (eqb (a i) x) (g i)) J.n ≡ sum (λ i. when (eqb (b i) x) (g i)) J.n
  amount_alike g x =
      sum_same (λ i. when (eqb (a i) x) (g i)) (λ i. when (eqb (b i) x) (g i)) J.n (λ i l. ap (λ (k : ℕ). when (eqb k x) (g i)) (e i l))

  pub load_alike : (v x : ℕ) → load J a v x ≡ load J b v x
  unfolding load
  load_alike v = amount_alike (ends_at J v)

  pub total_alike : (x : ℕ) → total J a x ≡ total J b x
  unfolding total
  total_alike = amount_alike (λ _. 1)

  pub spread_alike : spread J a ≡ spread J b
  unfolding spread
  spread_alike = ap (λ (t : ℕ → ℕ). greatest t J.c - least t J.c) (fun_ext total_alike)

  pub excess_alike : total_excess J a ≡ total_excess J b
  excess_alike = excess_by_loads J a b (λ v x lv lx. load_alike v x)

  pub in_range_alike : InRange J a → InRange J b
  in_range_alike h i l = omega (arith, e i l, h i l)

-- the rule asks for no more than the nets' crossbars, before and after
module _ (J : Netlist) (A B : ℕ) where
  pub rule_alike : (a a' b b' : ℕ → ℕ) → Alike J a a' → Alike J b b' → Recoloured J a b A B → Recoloured J a' b' A B
  rule_alike a a' b b' e d r =
      record {
        moved = record {
          stay = λ i l na nb. sym (d i l) ∙ r.moved.stay i l (λ q. na (sym (e i l) ∙ q)) (λ q. nb (sym (e i l) ∙ q)) ∙ e i l;
          among = λ i l t. subst (OnTwo A B) (d i l) (r.moved.among i l (subst (OnTwo A B) (sym (e i l)) t));
        };
        clauses = λ v l. rw (load_alike J a a' e v A, load_alike J a a' e v B, load_alike J b b' d v A, load_alike J b b' d v B) at (r.clauses v l);
        totals = rw (total_alike J b b' d A, total_alike J b b' d B) at r.totals;
      }
