-- The counts at an FPGA: of the ends, of those that leave and enter, and of those of each label; and the rule that they add up to.
-- Assumes nothing.
use mathlib.Core.Path.{◌≡◌, refl}
use mathlib.Core.Logic.{◌⊎◌, ⊎_elim}
use Prim.Native.Nat.{ℕ, ◌+◌, ◌≤◌, ◌<◌}
use native.Mathlib.Omega.{arith}
use borrow.Author.Tests.{eq-eqb}
use Rattle.laws.specs.Sum.{sum}
use Rattle.laws.proofs.Sum.{sum_pairs, sum_append, sum_zero}
use Rattle.laws.proofs.Cases.{by_same}
use Rattle.pair.specs.Pair.{hit, count, Near}
use Rattle.pair.proofs.Counting.{hit_not, hit_same}
use Rattle.split.specs.Split.{stands, ends, load_on, Shared}

-- an item counts for its own label
pub hit_own : (fpga x : ℕ → ℕ) (v b i : ℕ) → x i ≡ b → hit fpga x v b i ≡ stands fpga v i
unfolding hit stands
hit_own fpga x v b i e = rw (eq-eqb (x i) b e)

pub stands_same : (f g : ℕ → ℕ) (v i j : ℕ) → f i ≡ g j → stands f v i ≡ stands g v j
unfolding stands
stands_same f g v i j e = rw e

-- the items at v are those of label 0 and those of label 1
pub both : (fpga x : ℕ → ℕ) (v n : ℕ) → ((i : ℕ) → i < n → x i ≤ 1) → count fpga x v 0 n + count fpga x v 1 n ≡ sum (stands fpga v) n
both fpga x v n h =
    omega (
      arith,
      sum_zero n,
      sum_pairs (hit fpga x v 0) (hit fpga x v 1) (stands fpga v) (λ _. 0) n (λ i q.
          by_same (x i) 0 (λ e. omega (arith, hit_own fpga x v 0 i e, hit_not fpga x v 1 i (omega arith)))
          (λ ne. omega (arith, hit_not fpga x v 0 i ne, hit_own fpga x v 1 i (omega (arith, h i q))))),
    )

-- k nets have their ends in a row, the first ends and then the second, labelled apart: those labelled b, one of each net, are in `own`
pub labelled : (row own y : ℕ → ℕ) (k b : ℕ) → b ≤ 1 → ((e : ℕ) → e < k → y e + y (k + e) ≡ 1) → ((e : ℕ) → e < k → y e ≡ b → own e ≡ row e)
    → ((e : ℕ) → e < k → y (k + e) ≡ b → own e ≡ row (k + e)) → (v : ℕ) → count row y v b (k + k) ≡ sum (stands own v) k
labelled row own y k b hb alt low high v =
    omega (
      arith,
      sum_zero k,
      sum_append (hit row y v b) k k,
      sum_pairs (hit row y v b) (λ i. hit row y v b (k + i)) (stands own v) (λ _. 0) k (λ e q.
          let a = alt e q in
          by_same (y e) b
          (λ z. omega (arith, hit_own row y v b e z, hit_not row y v b (k + e) (omega arith), stands_same own row v e e (low e q z)))
          (λ n.
          let z : y (k + e) ≡ b = omega arith in
          omega (arith, hit_not row y v b e n, hit_own row y v b (k + e) z, stands_same own row v e (k + e) (high e q z)))),
    )

-- nets whose ends may be swapped count alike
module _ (f g f' g' : ℕ → ℕ) (k : ℕ) (h : (e : ℕ) → e < k → ((f' e ≡ f e) × (g' e ≡ g e)) ⊎ ((f' e ≡ g e) × (g' e ≡ f e))) (v : ℕ) where
  pub swap_ends : ends f' g' v k ≡ ends f g v k
  swap_ends =
      sum_pairs (stands f' v) (stands g' v) (stands f v) (stands g v) k (λ e q.
      ⊎_elim (λ z. omega (arith, stands_same f' f v e e z.0, stands_same g' g v e e z.1))
      (λ z. omega (arith, stands_same f' g v e e z.0, stands_same g' f v e e z.1)) (h e q))

  pub swap_load : (x : ℕ → ℕ) (b : ℕ) → load_on f g x v b k ≡ load_on f' g' x v b k
  swap_load x b =
      sum_pairs (hit f x v b) (hit g x v b) (hit f' x v b) (hit g' x v b) k (λ e q.
      ⊎_elim (λ z. omega (arith, at f' f e z.0, at g' g e z.1))
      (λ z. omega (arith, at f' g e z.0, at g' f e z.1)) (h e q))
    where
      at : (p q : ℕ → ℕ) (e : ℕ) → p e ≡ q e → hit p x v b e ≡ hit q x v b e
      at p q e z = hit_same p q x x v b e z refl

-- the rule: t leave and h enter, a and c of them labelled 0, b and d labelled 1
pub rule : (n t h a b c d : ℕ) → t + h ≡ n → a + b ≡ t → c + d ≡ h → Near t h → Near a b → Near c d
    → Shared n (a + c) (b + d)
rule n t h a b c d e et eh p q r =
    record { all = omega arith; near = omega arith; odd = λ o. omega arith; full = λ w z. omega arith }
