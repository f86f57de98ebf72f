-- The second loop: the items that wait are paired with each other. By parity none is left.
-- Assumes nothing.
use mathlib.Core.Path.{◌≡◌, refl, sym, ◌∙◌}
use mathlib.Core.Logic.{dite, ◌⊎◌, inl, inr, ⊎_elim}
use mathlib.Core.List.{List}
use Prim.Native.Nat.{ℕ, ◌+◌, ◌≤◌, ◌<◌}
use native.Mathlib.Decide.{dec_lt}
use native.Mathlib.Omega.{arith}
use lib.ListN.{length, get_or}
use Rattle.laws.specs.Sum.{sum}
use Rattle.laws.specs.Row.{at}
use Rattle.laws.specs.Matching.{is, Alternates}
use Rattle.laws.proofs.Sum.{sum_same, sum_one, sum_zero}
use Rattle.laws.proofs.Cases.{by_same}
use Rattle.std.specs.Prelude.{Option, Some, None}
use Rattle.pair.specs.Pair.{fpga_count, count, Near, Paired, Pairing}
use Rattle.pair.specs.Making.{Lab, Differing, free, done, linked, Made, waiter, Waiting, PairedUpTo, LeftWaiting, PairsAll, Lean}
use Rattle.pair.proofs.Linking.{Loose, free_is, free_not, done_is, at_other, rest, alt_before, made_after}

-- item k waits at an FPGA from v on
abbrev pub Waits : List (Option ℕ) → ℕ → ℕ → Type 0
Waits p v k = (w : ℕ) × (v ≤ w) × (w < fpga_count) × (waiter p w ≡ Some k)

-- the FPGAs below v are done, and item c is carried
pub record Swept (n : ℕ) (p : List (Option ℕ)) (m₀ m : List ℕ) (c : Option ℕ) (v : ℕ) : Type 0 where
  pub ready : LeftWaiting n m₀ p
  pub made : Made n m
  pub held : (j : ℕ) → c ≡ Some j → Waiting n m j
  pub apart : (j : ℕ) → c ≡ Some j → (w : ℕ) → v ≤ w → w < fpga_count → waiter p w ≡ Some j → ⊥
  pub waits : (w j : ℕ) → v ≤ w → w < fpga_count → waiter p w ≡ Some j → Waiting n m j
  pub seen : (k : ℕ) → k < n → n ≤ get_or m k 0 → (c ≡ Some k) ⊎ Waits p v k
  pub grows : (x : ℕ → ℕ) → Lab x n → Differing x n m → Differing x n m₀

pub start : (n : ℕ) (m : List ℕ) (p : List (Option ℕ)) → LeftWaiting n m p → Swept n p m m None 0
start n m p r =
    record {
      ready = r;
      made = r.made;
      held = λ j q. cc;
      apart = λ j q. cc;
      waits = λ w j lo hi q. r.waits w j hi q;
      seen = λ k l q. let h = r.seen k l q in inr (h.0, omega arith, h.1, h.2);
      grows = λ x lab alt. alt;
    }

module _ (n : ℕ) (p : List (Option ℕ)) (m₀ m : List ℕ) (c : Option ℕ) (v : ℕ) (s : Swept n p m₀ m c v) (lv : v < fpga_count) where
  -- what waits from v on waits at v or from v + 1 on
  later : (k : ℕ) → Waits p v k → (waiter p v ≡ Some k) ⊎ Waits p (v + 1) k
  later k h =
      by_same h.0 v (λ e. inl (rw e at h.3))
      (λ ne. inr (h.0, omega (arith, h.1, ne), h.2, h.3))

  pub skip : waiter p v ≡ None → Swept n p m₀ m c (v + 1)
  skip z =
      record {
        ready = s.ready;
        made = s.made;
        held = s.held;
        apart = λ j q w lo hi. s.apart j q w (omega arith) hi;
        waits = λ w j lo hi q. s.waits w j (omega arith) hi q;
        seen = λ k l q. ⊎_elim (λ e. inl e) (λ h. ⊎_elim (λ e. cc) (λ t. inr t) (later k h)) (s.seen k l q);
        grows = s.grows;
      }

  -- j waits at v
  module _ (j : ℕ) (some : waiter p v ≡ Some j) where
    differ : (w : ℕ) → v < w → w < fpga_count → waiter p w ≡ Some j → ⊥
    differ w lo hi e = s.ready.once v w j lv hi lo some e

    pub pick : c ≡ None → Swept n p m₀ m (Some j) (v + 1)
    pick z =
        record {
          ready = s.ready;
          made = s.made;
          held = λ a q. s.waits v a (omega arith) lv (some ∙ q);
          apart = λ a q w lo hi e. differ w (omega arith) hi (e ∙ sym q);
          waits = λ w a lo hi q. s.waits w a (omega arith) hi q;
          seen = λ k l q. ⊎_elim (λ e. cc) (λ h. ⊎_elim (λ e. inl (sym some ∙ e)) (λ t. inr t) (later k h)) (s.seen k l q);
          grows = s.grows;
        }

    -- i is carried
    module _ (i : ℕ) (carried : c ≡ Some i) where
      loose : Loose n m i j
      loose =
          let h = s.held i carried in
          let w = s.waits v j (omega arith) lv some in
          record {
            made = s.made;
            i_in = h.0;
            j_in = w.0;
            apart = λ e. s.apart i carried v (omega arith) lv (cc);
            i_free = h.1;
            j_free = w.1;
          }

      pub both_in : (i < length m) × (j < length m)
      both_in = rw s.made.long (loose.i_in, loose.j_in)

      pub join : (m' : List ℕ) → m' ≡ linked m i j → Swept n p m₀ m' None (v + 1)
      join m' e =
          rw e
          (record {
            ready = s.ready;
            made = made_after loose;
            held = λ a q. cc;
            apart = λ a q. cc;
            waits = λ w a lo hw q.
                let h = s.waits w a (omega arith) hw q in
                (h.0, rw (at_other loose a (λ e. s.apart i carried w (omega arith) hw (cc)) (λ e. differ w (omega arith) hw (cc))) h.1);
            seen = λ k l q.
                let a = rest loose k q in
                ⊎_elim (λ e. let y : k ≡ i = cc in absurd (a.0 y))
                (λ h. ⊎_elim (λ e. let y : k ≡ j = cc in absurd (a.1 y)) (λ t. inr t) (later k h))
                (s.seen k l (rw (at_other loose k a.0 a.1) at q));
            grows = λ x lab alt. s.grows x lab (alt_before loose x alt);
          })

-- after the last FPGA
module _ (n : ℕ) (p : List (Option ℕ)) (m₀ m : List ℕ) where
  -- whatever is free is the carry
  only : (c : Option ℕ) (v : ℕ) → Swept n p m₀ m c v → fpga_count ≤ v → (k : ℕ) → k < n → n ≤ get_or m k 0 → c ≡ Some k
  only c v s last k l q = ⊎_elim (λ e. e) (λ h. absurd (omega (arith, h.1, h.2))) (s.seen k l q)

  -- so that a carry would make the number of free items 1
  none : (c : Option ℕ) (v : ℕ) → Swept n p m₀ m c v → fpga_count ≤ v → c ≡ None
  none None v s last = refl
  none (Some j) v s last =
      let h = s.held j refl in
      absurd (omega (
        arith,
        s.made.even,
        free_is n m j h.1,
        sum_zero n,
        sum_one (free n m) (λ _. 0) j n h.0
            (λ k q nk. dite (dec_lt (get_or m k 0) n) (λ y. free_not n m k y) (λ y. let o = only (Some j) v s last k q (omega arith) in let e : k ≡ j = cc in absurd (nk e))),
      ))

  pub finish : (c : Option ℕ) (v : ℕ) → Swept n p m₀ m c v → fpga_count ≤ v → PairsAll n m₀ m
  finish c v s last =
      record {
        made = s.made;
        all = λ k l. dite (dec_lt (get_or m k 0) n) (λ y. y) (λ y. let o = only c v s last k l (omega arith) in let z = none c v s last in cc);
        grows = s.grows;
      }

paired : (fpga : ℕ → ℕ) (n : ℕ) (m : List ℕ) (p : List (Option ℕ)) (m' : List ℕ) → PairedUpTo fpga n m p n → PairsAll n m m' → Paired fpga n m'
paired fpga n m p m' g f =
    record {
      perfect = record {
        below = f.all;
        moves = λ k l. (f.made.pairs k l (f.all k l)).0;
        back = λ k l. (f.made.pairs k l (f.all k l)).1;
      };
      fair = λ x alt v l. fair x (lab x alt) v l (waiter p v) refl (g.lean x (lab x alt) (f.grows x (lab x alt) (λ k q r. alt k q)) v l);
      level = λ x alt. sym (same x 0) ∙ f.made.level x (lab x alt) (λ k q r. alt k q) ∙ same x 1;
    }
  where
    lab : (x : ℕ → ℕ) → Alternates n (at m') x → Lab x n
    lab x alt k l = omega (arith, alt k l)

    same : (x : ℕ → ℕ) (b : ℕ) → sum (done n m' x b) n ≡ sum (is x b) n
    same x b = sum_same (done n m' x b) (is x b) n (λ k l. done_is n m' x b k (f.all k l))

    fair : (x : ℕ → ℕ) → Lab x n → (v : ℕ) → v < fpga_count → (q : Option ℕ) → waiter p v ≡ q → Lean x q (count fpga x v 0 n) (count fpga x v 1 n)
        → Near (count fpga x v 0 n) (count fpga x v 1 n)
    fair x lb v l None e h = omega arith
    fair x lb v l (Some j) e h = omega (arith, h, lb j (g.waits v j l e).0)

-- the calls of `pair`, one after another
pub pair_done : (fpgas m m' : List ℕ) (p : List (Option ℕ)) → PairedUpTo (at fpgas) (length fpgas) m p (length fpgas) → PairsAll (length m) m m' → Pairing fpgas m'
pair_done fpgas m m' p g f =
    let f' : PairsAll (length fpgas) m m' = rw g.made.long at f in
    record { paired = paired _ _ m p m' g f'; long = f'.made.long }
