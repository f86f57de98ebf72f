-- What the labels of the nets that are taken say of loads and totals, once they are written back as crossbars.
-- Assumes nothing.
use mathlib.Core.Path.{◌≡◌, refl, ap, sym, subst, ◌∙◌}
use mathlib.Core.Bool.{Bool, true, false}
use mathlib.Core.Logic.{◌≢◌, ◌⊎◌, inl, inr}
use Prim.Native.Nat.{ℕ, ◌+◌, ◌-◌, ◌*◌, ◌/◌, ◌%◌, ◌≤◌, ◌<◌}
use native.Mathlib.Omega.{arith}
use lib.Dec.{eqb}
use Rattle.laws.specs.Sum.{sum, when}
use Rattle.laws.specs.Rank.{rank}
use Rattle.laws.specs.Matching.{is}
use Rattle.laws.proofs.Sum.{sum_same, sum_add, sum_more, when_else, when_none}
use Rattle.laws.proofs.Rank.{sum_rank}
use Rattle.laws.proofs.Matching.{is_yes, is_no}
use Rattle.laws.proofs.Cases.{by_test, by_same}
use Rattle.board.specs.Netlist.{Netlist}
use Rattle.board.specs.Board.{ends_at, load, total}
use Rattle.board.specs.Rule.{Halves}
use Rattle.board.proofs.Halves.{halves_if}
use Rattle.pair.specs.Pair.{hit, count}
use Rattle.pair.proofs.Counting.{hit_else}
use Rattle.split.specs.Split.{stands, load_on, Shared}
use Rattle.recolour.specs.Steps.{nowhere}

-- the ends of an item that has the label, or of none
when_both : (b p q : Bool) → when b (when p 1 + when q 1) ≡ when p (when b 1) + when q (when b 1)
when_both true p q = refl
when_both false p q = omega (arith, when_none p, when_none q)

ends_hit : (f g l : ℕ → ℕ) (v c e : ℕ) → when (eqb (l e) c) (stands f v e + stands g v e) ≡ hit f l v c e + hit g l v c e
unfolding stands hit
ends_hit f g l v c e = when_both (eqb (l e) c) (eqb (f e) v) (eqb (g e) v)

-- Of n nets those that t picks are on the crossbar z exactly where the label by rank is c, and no other net is on z.
module _ (t : ℕ → Bool) (b l : ℕ → ℕ) (n z c : ℕ)
    (on : (i : ℕ) → i < n → t i ≡ true → eqb (b i) z ≡ eqb (l (rank t i)) c)
    (off : (i : ℕ) → i < n → t i ≡ false → b i ≢ z) where
  -- of any amounts w by net, and h by rank: the amount on z
  pub amount : (w h : ℕ → ℕ) → ((i : ℕ) → i < n → t i ≡ true → h (rank t i) ≡ w i)
      → sum (λ i. when (eqb (b i) z) (w i)) n ≡ sum (λ e. when (eqb (l e) c) (h e)) (rank t n)
  amount w h same =
      sum_same (λ i. when (eqb (b i) z) (w i)) (λ i. when (t i) (when (eqb (l (rank t i)) c) (h (rank t i)))) n (λ i q.
      by_test (t i) (λ e. rw (e, on i q e, same i q e)) (λ e. rw e (when_else (b i) (w i) z (off i q e))))
      ∙ sum_rank t (λ e. when (eqb (l e) c) (h e)) n

  module _ (J : Netlist) (same_n : J.n ≡ n) where
    pub total_by_label : total J b z ≡ sum (is l c) (rank t n)
    unfolding total is
    total_by_label = rw same_n (amount (λ _. 1) (λ _. 1) (λ i q e. refl))

    pub load_by_label : (f g : ℕ → ℕ) → ((i : ℕ) → i < n → t i ≡ true → f (rank t i) ≡ J.first i) → ((i : ℕ) → i < n → t i ≡ true → g (rank t i) ≡ J.second i)
        → (v : ℕ) → load J b v z ≡ load_on f g l v c (rank t n)
    unfolding load ends_at stands
    load_by_label f g ef eg v =
        rw same_n
        (amount (ends_at J v) (λ e. stands f v e + stands g v e) (λ i q e. rw (ef i q e, eg i q e)))
        ∙ sum_same (λ e. when (eqb (l e) c) (stands f v e + stands g v e)) (λ e. hit f l v c e + hit g l v c e) (rank t n) (λ e q. ends_hit f g l v c e)
        ∙ sum_add (hit f l v c) (hit g l v c) (rank t n)

-- a dummy net, the last of k, adds nothing to a load
pub load_no_dummy : (f g l : ℕ → ℕ) (count k : ℕ) → count ≤ k → k ≤ count + 1 → (count < k → (f count ≡ nowhere) × (g count ≡ nowhere))
    → (v c : ℕ) → v < nowhere → load_on f g l v c k ≡ load_on f g l v c count
load_no_dummy f g l count k lo hi dummy v c in_board =
    by_same count k (λ e. ap (load_on f g l v c) (sym e))
    (λ ne.
    let last : k ≡ count + 1 = omega arith in
    let d : (f count ≡ nowhere) × (g count ≡ nowhere) = dummy (omega arith) in
    rw last
    (omega (
      arith,
      sum_more (hit f l v c) count,
      sum_more (hit g l v c) count,
      hit_else f l v c count (omega (arith, d.0)),
      hit_else g l v c count (omega (arith, d.1)),
    )))

-- where the labels halve all k nets, the dummy is the one more on y
pub one_more : (l : ℕ → ℕ) (count k mark : ℕ) → count ≤ k → k ≤ count + 1 → mark ≤ 1 → (count < k → mark ≡ l count) → sum (is l 0) k ≡ sum (is l 1) k
    → (sum (is l (1 - mark)) count ≡ sum (is l mark) count) ⊎ (sum (is l (1 - mark)) count ≡ sum (is l mark) count + 1)
one_more l count k mark lo hi small dummy level =
    by_same count k (λ e. inl (rw e halved))
    (λ ne.
    let last : k ≡ count + 1 = omega arith in
    let d : mark ≡ l count = dummy (omega arith) in
    inr
    (omega (
      arith,
      rw last at halved,
      sum_more (is l mark) count,
      sum_more (is l (1 - mark)) count,
      is_yes l mark count (sym d),
      is_no l (1 - mark) count (omega arith),
    )))
  where
    halved : sum (is l (1 - mark)) k ≡ sum (is l mark) k
    halved = by_same mark 1 (λ e. rw e level) (λ ne. let e : mark ≡ 0 = omega arith in rw e (sym level))

-- what two crossbars share, in either order
pub shared_swap : (n l r : ℕ) → Shared n l r → Shared n r l
shared_swap n l r h =
    record {
      all = omega (arith, h.all);
      near = (h.near.1, h.near.0);
      odd = λ o. ((h.odd o).1, (h.odd o).0);
      full = λ w e. sym (h.full w e);
    }

-- the loads by label, that of y last
pub shared_by : (n : ℕ) (load-on : ℕ → ℕ) (mark : ℕ) → mark ≤ 1 → Shared n (load-on 0) (load-on 1) → Shared n (load-on (1 - mark)) (load-on mark)
shared_by n load-on mark small h =
    by_same mark 1 (λ e. rw e h) (λ ne. let e : mark ≡ 0 = omega arith in rw e (shared_swap n (load-on 0) (load-on 1) h))

-- where the width is even, this is what the rule of a round asks
pub halves_of : (m s l r : ℕ) → m % 2 ≡ 0 → Shared s l r → Halves m s l r
halves_of m s l r even h =
    let e : 2 * (m / 2) ≡ m = omega arith in
    subst (λ (k : ℕ). Halves k s l r) e (halves_if (m / 2) s l r h.all h.near h.odd (h.full (m / 2)))
