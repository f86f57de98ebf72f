-- `ways` leaves out no way; a member of a list that passes a test is a member of what the test keeps.
-- Assumes nothing.
use mathlib.Core.Path.{◌≡◌, refl}
use mathlib.Core.Bool.{Bool, true, false, cond, false≢true}
use mathlib.Core.List.{List, [], ◌∷◌, ◌++◌}
use mathlib.Core.Logic.{dite}
use Prim.Native.Nat.{ℕ, zero, suc, ◌<◌}
use native.Mathlib.Decide.{ℕ_discrete}
use native.Mathlib.Omega.{arith}
use Rattle.std.specs.List.{All, AllByRecursion, Contains, filter}
use Rattle.std.proofs.lemmas.List.Elements.{
  All-from_recursion,
  recursion_from_All,
  All-nil,
  All-cons,
  All-weaker,
  All-contains,
  All-filter,
  filter_passes,
  Contains-append_left,
  Contains-append_right,
  Contains-push,
}
use Rattle.laws.specs.Row.{row}
use Rattle.cases.specs.Ways.{Some, next_net, next_nets, ways}

module _ {A : Type 0} where
  pub each_member : (P : A → Type 0) (l : List A) → AllByRecursion P l → (x : A) → Contains l x → P x
  each_member P l e x m = All-contains P l x (All-from_recursion P l e) m

  pub some_member : (l : List A) → Some l → (x : A) × Contains l x
  some_member [] s = absurd s
  some_member (y ∷ ys) s = (y, (0, omega arith, refl))

  -- ---- what a test keeps

  module _ (t : A → Bool) where
    pub each_kept : (P : A → Type 0) (l : List A) → AllByRecursion P l → AllByRecursion P (filter t l)
    each_kept P l e = recursion_from_All P (filter t l) (All-filter t P l (All-from_recursion P l e))

    pub kept_passes : (x : A) (l : List A) → Contains (filter t l) x → t x ≡ true
    kept_passes x l m = All-contains (λ y. t y ≡ true) (filter t l) x (filter_passes t l) m

    kept_first : (b : Bool) (y : A) (r : List A) → b ≡ true → Contains (cond b (y ∷ r) r) y
    kept_first true y r e = (0, omega arith, refl)
    kept_first false y r e = absurd (false≢true e)

    kept_rest : (b : Bool) (y : A) (r : List A) (x : A) → Contains r x → Contains (cond b (y ∷ r) r) x
    kept_rest true y r x m = Contains-append_right (y ∷ []) r x m
    kept_rest false y r x m = m

    abbrev Keeps : List A → A → Type 0
    Keeps l x = t x ≡ true → Contains (filter t l) x

    all_kept : (l : List A) → All (Keeps l) l
    all_kept [] = All-nil (Keeps [])
    all_kept (y ∷ ys) =
        let r = filter t ys in
        let next : (x : A) → Keeps ys x → Keeps (y ∷ ys) x = λ x h e. kept_rest (t y) y r x (h e) in
        All-cons (Keeps (y ∷ ys)) y ys (kept_first (t y) y r) (All-weaker (Keeps ys) (Keeps (y ∷ ys)) next ys (all_kept ys))

    pub passes_kept : (x : A) (l : List A) → Contains l x → t x ≡ true → Contains (filter t l) x
    passes_kept x l m = All-contains (Keeps l) l x (all_kept l) m

-- ---- every way to put n nets on c crossbars is among the ways

next_net_among : (w : List ℕ) (c x : ℕ) → x < c → Contains (next_net w c) (w ++ (x ∷ []))
next_net_among w zero x l = absurd (omega arith)
next_net_among w (suc c) x l =
    dite (ℕ_discrete x c) (λ q. rw q (Contains-push (next_net w c) (w ++ (c ∷ []))))
    (λ ne. Contains-append_left (next_net w c) _ _ (next_net_among w c x (omega arith)))

-- crossbar x behind the way w is one of the next ways
abbrev Goes : ℕ → ℕ → List (List ℕ) → List ℕ → Type 0
Goes c x ws w = Contains (next_nets c ws) (w ++ (x ∷ []))

next_nets_among : (c x : ℕ) → x < c → (ws : List (List ℕ)) → All (Goes c x ws) ws
next_nets_among c x l [] = All-nil (Goes c x [])
next_nets_among c x l (u ∷ us) =
    All-cons (Goes c x (u ∷ us)) u us (Contains-append_left (next_net u c) (next_nets c us) _ (next_net_among u c x l))
    (All-weaker (Goes c x us) (Goes c x (u ∷ us)) (λ w h. Contains-append_right (next_net u c) (next_nets c us) _ h) us (next_nets_among c x l us))

pub way_among : (c : ℕ) (a : ℕ → ℕ) (n : ℕ) → ((i : ℕ) → i < n → a i < c) → Contains (ways c n) (row a n)
unfolding row
way_among c a zero h = (0, omega arith, refl)
way_among c a (suc n) h =
    All-contains (Goes c (a n) (ways c n)) (ways c n) (row a n) (next_nets_among c (a n) (h n (omega arith)) (ways c n)) (way_among c a n (λ i l. h i (omega arith)))
