-- Laws of the greatest and the least.
-- Assumes nothing.
use mathlib.Core.Path.{◌≡◌, refl, ap}
use mathlib.Core.Logic.{◌≢◌, dite}
use Prim.Native.Nat.{ℕ, zero, suc, ◌+◌, ◌≤◌, ◌<◌}
use native.Mathlib.Decide.{ℕ_discrete, dec_le}
use native.Mathlib.Omega.{arith}
use Rattle.laws.specs.Sum.{greatest, least}

module _ (f : ℕ → ℕ) where
  pub greatest_ge : (k n : ℕ) → k < n → f k ≤ greatest f n
  unfolding greatest
  greatest_ge k zero l = omega arith
  greatest_ge k (suc n) l = dite (ℕ_discrete n k) (λ e. omega (arith, ap f e)) (λ ne. omega (arith, greatest_ge k n (omega arith)))

  pub greatest_le : (w n : ℕ) → ((k : ℕ) → k < n → f k ≤ w) → greatest f n ≤ w
  unfolding greatest
  greatest_le w zero h = omega arith
  greatest_le w (suc n) h = omega (arith, greatest_le w n (λ k l. h k (omega arith)), h n (omega arith))

  pub greatest_is : (n : ℕ) → 0 < n → (k : ℕ) × (k < n) × (f k ≡ greatest f n)
  unfolding greatest
  greatest_is zero l = absurd (omega arith)
  greatest_is (suc zero) l = (0, omega arith, omega arith)
  greatest_is (suc (suc n)) l =
      let w = greatest_is (suc n) (omega arith) in
      dite (dec_le (f (suc n)) (greatest f (suc n))) (λ h. (w.0, omega (arith, w.1), omega (arith, w.2))) (λ h. (suc n, omega arith, omega arith))

  pub least_le : (k n : ℕ) → k < n → least f n ≤ f k
  unfolding least
  least_le k zero l = omega arith
  least_le k (suc zero) l = let e : k ≡ 0 = omega arith in omega (arith, ap f e)
  least_le k (suc (suc n)) l =
      dite (ℕ_discrete (suc n) k) (λ e. omega (arith, ap f e)) (λ ne. omega (arith, least_le k (suc n) (omega arith)))

  pub least_ge : (w n : ℕ) → 0 < n → ((k : ℕ) → k < n → w ≤ f k) → w ≤ least f n
  unfolding least
  least_ge w zero l h = omega arith
  least_ge w (suc zero) l h = h 0 l
  least_ge w (suc (suc n)) l h = omega (arith, least_ge w (suc n) (omega arith) (λ k q. h k (omega arith)), h (suc n) (omega arith))

  pub least_is : (n : ℕ) → 0 < n → (k : ℕ) × (k < n) × (f k ≡ least f n)
  unfolding least
  least_is zero l = absurd (omega arith)
  least_is (suc zero) l = (0, omega arith, refl)
  least_is (suc (suc n)) l =
      let w = least_is (suc n) (omega arith) in
      dite (dec_le (least f (suc n)) (f (suc n))) (λ h. (w.0, omega (arith, w.1), omega (arith, w.2))) (λ h. (suc n, omega arith, omega arith))

  -- every two are within w of each other if the greatest and the least are
  pub all_near : (w n : ℕ) → greatest f n ≤ least f n + w → (x y : ℕ) → x < n → y < n → f x ≤ f y + w
  all_near w n h x y lx ly = omega (arith, greatest_ge x n lx, least_le y n ly)

  pub ends_near : (w n : ℕ) → ((x y : ℕ) → x < n → y < n → f x ≤ f y + w) → greatest f n ≤ least f n + w
  ends_near w n h =
      dite (ℕ_discrete n 0) (λ e. omega (arith, greatest_le 0 n (λ k l. absurd (omega arith))))
      (λ ne.
      let p : 0 < n = omega arith in
      let g = greatest_is n p in
      let m = least_is n p in
      omega (arith, g.2, m.2, h g.0 m.0 g.1 m.1))

-- the greatest and the least of two functions that are the same below n
module _ (f g : ℕ → ℕ) where
  pub greatest_same : (n : ℕ) → ((k : ℕ) → k < n → f k ≡ g k) → greatest f n ≡ greatest g n
  unfolding greatest
  greatest_same zero h = refl
  greatest_same (suc n) h = rw (greatest_same n (λ k l. h k (omega arith)), h n (omega arith))

-- f and g differ at A and B only, with the same sum there, and g's two are at most one apart: g stays within the bounds of f
module _ (f g : ℕ → ℕ) (A B n : ℕ) (la : A < n) (lb : B < n) (other : (x : ℕ) → x < n → x ≢ A → x ≢ B → g x ≡ f x)
    (e : g A + g B ≡ f A + f B) (near : (g A ≤ g B + 1) × (g B ≤ g A + 1)) where
  pub greatest_no_more : greatest g n ≤ greatest f n
  greatest_no_more =
      greatest_le g (greatest f n) n (λ x l.
      dite (ℕ_discrete x A) (λ q. omega (arith, ap g q, greatest_ge f A n la, greatest_ge f B n lb))
      (λ na. dite (ℕ_discrete x B) (λ q. omega (arith, ap g q, greatest_ge f A n la, greatest_ge f B n lb))
      (λ nb. omega (arith, other x l na nb, greatest_ge f x n l))))

  pub least_no_less : least f n ≤ least g n
  least_no_less =
      least_ge g (least f n) n (omega arith) (λ x l.
      dite (ℕ_discrete x A) (λ q. omega (arith, ap g q, least_le f A n la, least_le f B n lb))
      (λ na. dite (ℕ_discrete x B) (λ q. omega (arith, ap g q, least_le f A n la, least_le f B n lb))
      (λ nb. omega (arith, other x l na nb, least_le f x n l))))
