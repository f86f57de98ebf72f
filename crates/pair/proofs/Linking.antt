-- Two free items become mates: what was made stays made, with one pair more.
-- Assumes nothing.
use mathlib.Core.Path.{◌≡◌, sym, ap, ◌∙◌}
use mathlib.Core.Logic.{◌≢◌}
use mathlib.Core.List.{List}
use Prim.Native.Nat.{ℕ, ◌+◌, ◌%◌, ◌≤◌, ◌<◌}
use native.Mathlib.Omega.{arith}
use lib.ListN.{get_or, set, length-set}
use lib.Seq.{get_or-set_same, get_or-set_other}
use borrow.Author.Tests.{lt-ltb, le-ltb, le-leb, lt-leb}
use Rattle.laws.specs.Sum.{sum}
use Rattle.laws.specs.Matching.{is}
use Rattle.laws.proofs.Sum.{sum_two}
use Rattle.laws.proofs.Cases.{by_two}
use Rattle.pair.proofs.Counting.{is_one}
use Rattle.pair.specs.Making.{Lab, Differing, free, done, linked, Made}

-- a free item, and one with a mate
pub free_is : (n : ℕ) (m : List ℕ) (k : ℕ) → n ≤ get_or m k 0 → free n m k ≡ 1
unfolding free
free_is n m k h = rw (le-leb n (get_or m k 0) h)

pub free_not : (n : ℕ) (m : List ℕ) (k : ℕ) → get_or m k 0 < n → free n m k ≡ 0
unfolding free
free_not n m k h = rw (lt-leb n (get_or m k 0) h)

pub done_is : (n : ℕ) (m : List ℕ) (x : ℕ → ℕ) (b k : ℕ) → get_or m k 0 < n → done n m x b k ≡ is x b k
unfolding done
done_is n m x b k h = rw (lt-ltb (get_or m k 0) n h)

pub done_not : (n : ℕ) (m : List ℕ) (x : ℕ → ℕ) (b k : ℕ) → n ≤ get_or m k 0 → done n m x b k ≡ 0
unfolding done
done_not n m x b k h = rw (le-ltb (get_or m k 0) n h)

-- i and j are two free items
pub record Loose (n : ℕ) (m : List ℕ) (i j : ℕ) : Type 0 where
  pub made : Made n m
  pub i_in : i < n
  pub j_in : j < n
  pub apart : i ≢ j
  pub i_free : n ≤ get_or m i 0
  pub j_free : n ≤ get_or m j 0

module _ {n : ℕ} {m : List ℕ} {i j : ℕ} (o : Loose n m i j) where
  pub at_j : get_or (linked m i j) j 0 ≡ i
  at_j = get_or-set_same (set m i j) j i 0 (simp length-set (omega (arith, o.made.long)))

  pub at_i : get_or (linked m i j) i 0 ≡ j
  at_i = get_or-set_other (set m i j) j i i 0 o.apart ∙ get_or-set_same m i j 0 (omega (arith, o.made.long))

  pub at_other : (k : ℕ) → k ≢ i → k ≢ j → get_or (linked m i j) k 0 ≡ get_or m k 0
  at_other k ni nj = get_or-set_other (set m i j) j k i 0 nj ∙ get_or-set_other m i k j 0 ni

  -- neither of the two is free any more
  pub rest : (k : ℕ) → n ≤ get_or (linked m i j) k 0 → (k ≢ i) × (k ≢ j)
  rest k q = (
    λ e. omega (arith, at_i, o.j_in, ap (λ (y : ℕ). get_or (linked m i j) y 0) e),
    λ e. omega (arith, at_j, o.i_in, ap (λ (y : ℕ). get_or (linked m i j) y 0) e),
  )

  -- a labelling that alternates after the step did so before it, and differs on the new pair
  pub alt_before : (x : ℕ → ℕ) → Differing x n (linked m i j) → Differing x n m
  alt_before x h =
      by_two (λ k. k < n → get_or m k 0 < n → x k + x (get_or m k 0) ≡ 1) i j (λ l q. omega arith) (λ l q. omega arith)
      (λ k ni nj l q. rw (at_other k ni nj) at (h k l (rw (at_other k ni nj) q)))

  pub alt_pair : (x : ℕ → ℕ) → Differing x n (linked m i j) → x i + x j ≡ 1
  alt_pair x h = rw at_i at (h i o.i_in (rw at_i o.j_in))

  pairs_after : (k : ℕ) → k < n → get_or (linked m i j) k 0 < n
      → (get_or (linked m i j) k 0 ≢ k) × (get_or (linked m i j) (get_or (linked m i j) k 0) 0 ≡ k)
  pairs_after =
      by_two (λ k. k < n → get_or (linked m i j) k 0 < n → (get_or (linked m i j) k 0 ≢ k) × (get_or (linked m i j) (get_or (linked m i j) k 0) 0 ≡ k)) i j
      (λ l q. rw at_i (λ e. o.apart (sym e), at_j))
      (λ l q. rw at_j (o.apart, at_i))
      (λ k ni nj l q. rw (at_other k ni nj) (old k ni nj l (rw (at_other k ni nj) at q)))
    where
      old : (k : ℕ) → k ≢ i → k ≢ j → k < n → get_or m k 0 < n → (get_or m k 0 ≢ k) × (get_or (linked m i j) (get_or m k 0) 0 ≡ k)
      old k ni nj l q =
          let h = o.made.pairs k l q in
          (h.0, at_other (get_or m k 0) (λ e. omega (arith, h.1, ap (λ (z : ℕ). get_or m z 0) e)) (λ e. omega (arith, h.1, ap (λ (z : ℕ). get_or m z 0) e)) ∙ h.1)

  free_same : (k : ℕ) → k ≢ i → k ≢ j → free n m k ≡ free n (linked m i j) k
  unfolding free
  free_same k ni nj = rw (at_other k ni nj)

  even_after : sum (free n (linked m i j)) n % 2 ≡ 0
  even_after =
      omega (
        arith,
        o.made.even,
        free_is n m i o.i_free,
        free_is n m j o.j_free,
        free_not n (linked m i j) i (rw at_i o.j_in),
        free_not n (linked m i j) j (rw at_j o.i_in),
        sum_two (free n m) (free n (linked m i j)) i j n o.i_in o.j_in o.apart (λ k l ni nj. free_same k ni nj),
      )

  done_same : (x : ℕ → ℕ) (b k : ℕ) → k ≢ i → k ≢ j → done n m x b k ≡ done n (linked m i j) x b k
  unfolding done
  done_same x b k ni nj = rw (at_other k ni nj)

  level_after : (x : ℕ → ℕ) → Lab x n → Differing x n (linked m i j) → sum (done n (linked m i j) x 0) n ≡ sum (done n (linked m i j) x 1) n
  level_after x lab h =
      omega (arith, o.made.level x lab (alt_before x h), alt_pair x h, is_one x i (lab i o.i_in), is_one x j (lab j o.j_in), two 0, two 1)
    where
      two : (b : ℕ) → sum (done n m x b) n + (is x b i + is x b j) ≡ sum (done n (linked m i j) x b) n
      two b =
          omega (
            arith,
            done_not n m x b i o.i_free,
            done_not n m x b j o.j_free,
            done_is n (linked m i j) x b i (rw at_i o.j_in),
            done_is n (linked m i j) x b j (rw at_j o.i_in),
            sum_two (done n m x b) (done n (linked m i j) x b) i j n o.i_in o.j_in o.apart (λ k l ni nj. done_same x b k ni nj),
          )

  pub made_after : Made n (linked m i j)
  made_after = record { long = simp length-set o.made.long; pairs = pairs_after; even = even_after; level = level_after }
