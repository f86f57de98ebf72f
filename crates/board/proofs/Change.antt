-- What a change on two crossbars does to loads and totals, and under the rule's clauses to the excess.
-- Assumes nothing.
use mathlib.Core.Path.{◌≡◌, ap, sym, ◌∙◌}
use mathlib.Core.Logic.{◌≢◌, dite, ◌⊎◌, inl, inr, ⊎_elim}
use Prim.Native.Nat.{ℕ, ◌+◌, ◌-◌, ◌*◌, ◌≤◌, ◌<◌}
use native.Mathlib.Decide.{ℕ_discrete, dec_le}
use native.Mathlib.Omega.{arith}
use lib.Dec.{eqb}
use Rattle.laws.specs.Sum.{sum, when}
use Rattle.laws.proofs.Sum.{sum_same, sum_two, sum_pairs, sum_less, when_here, when_else}
use Rattle.board.specs.Netlist.{Netlist}
use Rattle.board.specs.Board.{ends_at, load, total, excess, total_excess, InRange}
use Rattle.board.specs.Rule.{OnTwo, Moved, Clauses}

-- a crossbar is one of the two, or another
pub on_two : (A B x : ℕ) → OnTwo A B x ⊎ ((x ≢ A) × (x ≢ B))
on_two A B x = dite (ℕ_discrete x A) (λ e. inl (inl e)) (λ na. dite (ℕ_discrete x B) (λ e. inl (inr e)) (λ nb. inr (na, nb)))

-- what is on one of the two counts once on the two together, and nowhere else
module _ (A B x g : ℕ) where
  pub once : A ≢ B → OnTwo A B x → when (eqb x A) g + when (eqb x B) g ≡ g
  once ne (inl e) = omega (arith, when_here x g A e, when_else x g B (λ q. ne (sym e ∙ q)))
  once ne (inr e) = omega (arith, when_here x g B e, when_else x g A (λ q. ne (sym q ∙ e)))

  pub never : (y : ℕ) → y ≢ A → y ≢ B → OnTwo A B x → when (eqb x y) g ≡ 0
  never y na nb (inl e) = when_else x g y (λ q. na (sym q ∙ e))
  never y na nb (inr e) = when_else x g y (λ q. nb (sym q ∙ e))

module _ (J : Netlist) (a b : ℕ → ℕ) (A B : ℕ) (m : Moved J a b A B) where
  pub moved_in_range : A < J.c → B < J.c → InRange J a → InRange J b
  moved_in_range la lb h i l =
      ⊎_elim (λ t. ⊎_elim (λ e. omega (arith)) (λ e. omega (arith)) (m.among i l t))
      (λ n. omega (arith, m.stay i l n.0 n.1, h i l)) (on_two A B (a i))

  -- of any amounts g by net: the amount on another crossbar, and the amount on the two
  module _ (g : ℕ → ℕ) where
    pub same_elsewhere : (x : ℕ) → x ≢ A → x ≢ B → sum (λ i. when (eqb (b i) x) (g i)) J.n ≡ sum (λ i. when (eqb (a i) x) (g i)) J.n
    same_elsewhere x na nb =
        sum_same (λ i. when (eqb (b i) x) (g i)) (λ i. when (eqb (a i) x) (g i)) J.n (λ i l.
        ⊎_elim (λ t. never A B (b i) (g i) x na nb (m.among i l t) ∙ sym (never A B (a i) (g i) x na nb t))
        (λ n. ap (λ (k : ℕ). when (eqb k x) (g i)) (m.stay i l n.0 n.1)) (on_two A B (a i)))

    pub same_together : A ≢ B → sum (λ i. when (eqb (b i) A) (g i)) J.n + sum (λ i. when (eqb (b i) B) (g i)) J.n
        ≡ sum (λ i. when (eqb (a i) A) (g i)) J.n + sum (λ i. when (eqb (a i) B) (g i)) J.n
    same_together ne =
        sum_pairs (λ i. when (eqb (b i) A) (g i)) (λ i. when (eqb (b i) B) (g i)) (λ i. when (eqb (a i) A) (g i)) (λ i. when (eqb (a i) B) (g i)) J.n (λ i l.
        ⊎_elim (λ t. once A B (b i) (g i) ne (m.among i l t) ∙ sym (once A B (a i) (g i) ne t))
        (λ n. ap (λ (k : ℕ). when (eqb k A) (g i) + when (eqb k B) (g i)) (m.stay i l n.0 n.1)) (on_two A B (a i)))

  pub load_elsewhere : (v x : ℕ) → x ≢ A → x ≢ B → load J b v x ≡ load J a v x
  unfolding load
  load_elsewhere v = same_elsewhere (ends_at J v)

  pub loads_together : A ≢ B → (v : ℕ) → load J b v A + load J b v B ≡ load J a v A + load J a v B
  unfolding load
  loads_together ne v = same_together (ends_at J v) ne

  pub total_elsewhere : (x : ℕ) → x ≢ A → x ≢ B → total J b x ≡ total J a x
  unfolding total
  total_elsewhere = same_elsewhere (λ _. 1)

  pub totals_together : A ≢ B → total J b A + total J b B ≡ total J a A + total J a B
  unfolding total
  totals_together ne = same_together (λ _. 1) ne

-- Two loads p and q become l and r: their part above w does not rise, and falls where one was above w and one below.
module _ (w p q l r : ℕ) (e : l + r ≡ p + q) (low : p + q ≤ 2 * w → (l ≤ w) × (r ≤ w)) (high : 2 * w ≤ p + q → (w ≤ l) × (w ≤ r)) where
  pub above_no_more : l - w + (r - w) ≤ p - w + (q - w)
  above_no_more = dite (dec_le (p + q) (2 * w)) (λ h. omega (arith, low h)) (λ h. omega (arith, high (omega arith)))

  pub above_less : w < p → q < w → l - w + (r - w) < p - w + (q - w)
  above_less o u = dite (dec_le (p + q) (2 * w)) (λ h. omega (arith, low h)) (λ h. omega (arith, high (omega arith)))

module _ (J : Netlist) (a b : ℕ → ℕ) (A B : ℕ) (m : Moved J a b A B) (la : A < J.c) (lb : B < J.c) (ne : A ≢ B) where
  module _ (v : ℕ) where
    above : (ℕ → ℕ) → ℕ → ℕ
    above y x = load J y v x - J.width v

    by_two : excess J b v + (above a A + above a B) ≡ excess J a v + (above b A + above b B)
    unfolding excess above
    by_two =
        sum_two (λ x. load J b v x - J.width v) (λ x. load J a v x - J.width v) A B J.c la lb ne (λ k l na nb.
        ap (λ (y : ℕ). y - J.width v) (load_elsewhere J a b A B m v k na nb))

    pub excess_no_more : Clauses J a b A B v → excess J b v ≤ excess J a v
    unfolding above
    excess_no_more k =
        omega (arith, by_two, above_no_more (J.width v) (load J a v A) (load J a v B) (load J b v A) (load J b v B) (loads_together J a b A B m ne v) k.low k.high)

    pub excess_less : Clauses J a b A B v → J.width v < load J a v A → load J a v B < J.width v → excess J b v < excess J a v
    unfolding above
    excess_less k o u =
        omega (arith, by_two, above_less (J.width v) (load J a v A) (load J a v B) (load J b v A) (load J b v B) (loads_together J a b A B m ne v) k.low k.high o u)

  module _ (k : (v : ℕ) → v < J.f → Clauses J a b A B v) where
    pub total_excess_less : (v : ℕ) → v < J.f → J.width v < load J a v A → load J a v B < J.width v → total_excess J b < total_excess J a
    unfolding total_excess
    total_excess_less v l o u = sum_less (excess J b) (excess J a) v J.f l (λ u q. excess_no_more u (k u q)) (excess_less v (k v l) o u)
