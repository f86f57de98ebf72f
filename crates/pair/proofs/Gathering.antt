-- The first loop: one more item waits at its FPGA, or is paired with the one that waits there.
-- Assumes nothing.
use mathlib.Core.Path.{◌≡◌, refl, sym, ap, subst, ◌∙◌}
use mathlib.Core.Logic.{◌≢◌}
use mathlib.Core.List.{List}
use Prim.Native.Nat.{ℕ, ◌+◌, ◌*◌, ◌%◌, ◌≤◌, ◌<◌}
use native.Mathlib.Omega.{arith}
use lib.ListN.{length, get_or, set, replicate, length-set, length-replicate, get_or-replicate}
use lib.Seq.{get_or-set_same, get_or-set_other}
use Rattle.laws.specs.Sum.{sum}
use Rattle.laws.proofs.Sum.{sum_same, sum_ones, sum_more}
use Rattle.laws.proofs.Cases.{by_one}
use Rattle.std.specs.Prelude.{Option, Some, None}
use Rattle.pair.specs.Pair.{fpga_count, hit, count, Items}
use Rattle.laws.specs.Row.{at}
use Rattle.pair.specs.Making.{no_mate, Lab, Differing, free, done, linked, Made, waiter, WaitingAt, Lean, Blank, PairedUpTo, LeftWaiting}
use Rattle.pair.proofs.Counting.{hit_here, hit_else}
use Rattle.pair.proofs.Linking.{Loose, free_is, done_not, at_other, rest, alt_before, alt_pair, made_after}

-- where nothing is paired
made_start : (n : ℕ) (m : List ℕ) → n % 2 ≡ 0 → length m ≡ n → ((k : ℕ) → k < n → n ≤ get_or m k 0) → Made n m
made_start n m ev long h =
    record {
      long = long;
      pairs = λ k l q. absurd (omega (arith, h k l));
      even = omega (arith, sum_ones (free n m) n (λ k l. free_is n m k (h k l)));
      level = λ x lab alt. sum_same (done n m x 0) (done n m x 1) n (λ k l. done_not n m x 0 k (h k l) ∙ sym (done_not n m x 1 k (h k l)));
    }

start : (fpga : ℕ → ℕ) (n : ℕ) (m : List ℕ) (p : List (Option ℕ)) → Items fpga n → length m ≡ n → ((k : ℕ) → k < n → n ≤ get_or m k 0)
    → length p ≡ fpga_count → ((v : ℕ) → v < fpga_count → waiter p v ≡ None) → PairedUpTo fpga n m p 0
unfolding sum
start fpga n m p items lm hm lp hp =
    record {
      made = made_start n m items.even lm hm;
      wide = lp;
      waits = λ v j l q. let e : waiter p v ≡ None = hp v l in cc;
      seen = λ k l q. absurd (omega arith);
      later = λ k l q. hm k l;
      lean = λ x lab alt v l. subst (λ q. Lean x q 0 0) (sym (hp v l)) refl;
    }

-- before the first item
pub begun : (fpgas m : List ℕ) → Blank fpgas m → PairedUpTo (at fpgas) (length fpgas) m (replicate fpga_count None) 0
begun fpgas m b =
    start _ _ m _ b.items (rw b.blank (length-replicate (length fpgas) no_mate))
    (λ k l. rw (b.blank, get_or-replicate) (omega (arith, b.items.small)))
    (length-replicate {A = Option ℕ} fpga_count None) (λ v l. get_or-replicate {A = Option ℕ} fpga_count v None None l)

module _ (fpga : ℕ → ℕ) (n : ℕ) (m : List ℕ) (p : List (Option ℕ)) (i v : ℕ) (items : Items fpga n) (g : PairedUpTo fpga n m p i) (li : i < n) (kv : fpga i ≡ v) where
  below : v < fpga_count
  below = omega (arith, items.known i li)

  now_v : (a : Option ℕ) → waiter (set p v a) v ≡ a
  now_v a = get_or-set_same p v a None (omega (arith, below, g.wide))

  now_w : (a : Option ℕ) (w : ℕ) → w ≢ v → waiter (set p v a) w ≡ waiter p w
  now_w a w ne = get_or-set_other p v w a None ne

  -- at another FPGA nothing changes
  lean_else : (x : ℕ → ℕ) (w : ℕ) (q : Option ℕ) → w ≢ v → Lean x q (count fpga x w 0 i) (count fpga x w 1 i) → Lean x q (count fpga x w 0 (i + 1)) (count fpga x w 1 (i + 1))
  lean_else x w None ne h =
      omega (arith, hit_else fpga x w 0 i (λ e. ne (sym e ∙ kv)), hit_else fpga x w 1 i (λ e. ne (sym e ∙ kv)), sum_more (hit fpga x w 0) i, sum_more (hit fpga x w 1) i)
  lean_else x w (Some j) ne h =
      omega (arith, hit_else fpga x w 0 i (λ e. ne (sym e ∙ kv)), hit_else fpga x w 1 i (λ e. ne (sym e ∙ kv)), sum_more (hit fpga x w 0) i, sum_more (hit fpga x w 1) i)

  pub wait : waiter p v ≡ None → PairedUpTo fpga n m (set p v (Some i)) (i + 1)
  wait z =
      record {
        made = g.made;
        wide = simp length-set g.wide;
        waits = by_one (λ w. (j : ℕ) → w < fpga_count → waiter p' w ≡ Some j → WaitingAt fpga n m (i + 1) w j) v
            (λ j l q. let here : waiter p' v ≡ Some i = now_v (Some i) in
            let e : i ≡ j = cc in
            subst (λ j. WaitingAt fpga n m (i + 1) v j) e (omega arith, kv, g.later i li (omega arith)))
            (λ w ne j l q. let h = g.waits w j l (sym (now_w (Some i) w ne) ∙ q) in (omega (arith, h.0), h.1, h.2));
        seen = by_one (λ k. k < i + 1 → n ≤ get_or m k 0 → waiter p' (fpga k) ≡ Some k) i
            (λ l q. rw kv (now_v (Some i)))
            (λ k ne l q. let s = g.seen k (omega arith) q in now_w (Some i) (fpga k) (λ e. cc) ∙ s);
        later = λ k l q. g.later k l (omega arith);
        lean = λ x lab alt. by_one (λ w. w < fpga_count → Lean x (waiter p' w) (count fpga x w 0 (i + 1)) (count fpga x w 1 (i + 1))) v
            (λ l. rw (now_v (Some i)) (lean_here x (lab i li) (rw z at (g.lean x lab alt v l))))
            (λ w ne l. rw (now_w (Some i) w ne) (lean_else x w (waiter p w) ne (g.lean x lab alt w l)));
      }
    where
      p' : List (Option ℕ)
      p' = set p v (Some i)

      lean_here : (x : ℕ → ℕ) → x i ≤ 1 → count fpga x v 1 i ≡ count fpga x v 0 i → count fpga x v 1 (i + 1) + 1 ≡ count fpga x v 0 (i + 1) + 2 * x i
      lean_here x h old = omega (arith, hit_here fpga x v i kv h, sum_more (hit fpga x v 0) i, sum_more (hit fpga x v 1) i)

  -- j waits there
  module _ (j : ℕ) (some : waiter p v ≡ Some j) where
    sits : WaitingAt fpga n m i v j
    sits = g.waits v j below some

    loose : Loose n m i j
    loose =
        record {
          made = g.made;
          i_in = li;
          j_in = omega (arith, sits.0);
          apart = omega (arith, sits.0);
          i_free = g.later i li (omega arith);
          j_free = sits.2;
        }

    pub both_in : (i < length m) × (j < length m)
    both_in = (omega (arith, g.made.long), omega (arith, sits.0, g.made.long))

    waits_after : (w : ℕ) → w ≢ v → (a : ℕ) → WaitingAt fpga n m i w a → WaitingAt fpga n (linked m i j) (i + 1) w a
    waits_after w nw a h = (
      omega (arith, h.0),
      h.1,
      rw (at_other loose a (omega (arith, h.0)) (λ e. nw (sym h.1 ∙ ap fpga e ∙ sits.1))) h.2,
    )

    seen_after : (k : ℕ) → k < i + 1 → n ≤ get_or (linked m i j) k 0 → waiter (set p v None) (fpga k) ≡ Some k
    seen_after k l q =
        let r = rest loose k q in
        let s = g.seen k (omega (arith, r.0)) (rw (at_other loose k r.0 r.1) at q) in
        now_w None (fpga k) (λ e. let same : k ≡ j = cc in r.1 same) ∙ s

    lean_after : (x : ℕ → ℕ) → Lab x n → Differing x n (linked m i j) → count fpga x v 1 (i + 1) ≡ count fpga x v 0 (i + 1)
    lean_after x lab alt =
        let old = rw some at (g.lean x lab (alt_before loose x alt) v below) in
        omega (arith, hit_here fpga x v i kv (lab i li), old, alt_pair loose x alt, sum_more (hit fpga x v 0) i, sum_more (hit fpga x v 1) i)

    pub join : (m' : List ℕ) → m' ≡ linked m i j → PairedUpTo fpga n m' (set p v None) (i + 1)
    join m' em =
        rw em
        (record {
          made = made_after loose;
          wide = simp length-set g.wide;
          waits = by_one (λ w. (a : ℕ) → w < fpga_count → waiter (set p v None) w ≡ Some a → WaitingAt fpga n (linked m i j) (i + 1) w a) v
              (λ a l q. let here : waiter (set p v None) v ≡ None = now_v None in cc)
              (λ w nw a l q. waits_after w nw a (g.waits w a l (sym (now_w None w nw) ∙ q)));
          seen = seen_after;
          later = λ k l q. rw (at_other loose k (omega arith) (omega (arith, sits.0))) (g.later k l (omega arith));
          lean = λ x lab alt. by_one (λ w. w < fpga_count → Lean x (waiter (set p v None) w) (count fpga x w 0 (i + 1)) (count fpga x w 1 (i + 1))) v
              (λ l. rw (now_v None) (lean_after x lab alt))
              (λ w nw l. rw (now_w None w nw) (lean_else x w (waiter p w) nw (g.lean x lab (alt_before loose x alt) w l)));
        })

-- after the last item
pub ready : (fpga : ℕ → ℕ) (n : ℕ) (m : List ℕ) (p : List (Option ℕ)) → Items fpga n → PairedUpTo fpga n m p n → LeftWaiting n m p
ready fpga n m p items g =
    record {
      made = g.made;
      small = items.small;
      waits = λ v j l q. let h = g.waits v j l q in (h.0, h.2);
      once = λ v w j lv lw l ev ew. omega (arith, (g.waits v j lv ev).1, (g.waits w j lw ew).1);
      seen = λ k l q. (fpga k, items.known k l, g.seen k l q);
    }
