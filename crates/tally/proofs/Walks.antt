-- The nets counted one after the other: by their ends, and by their crossbars.
-- Assumes nothing.
use mathlib.Core.Path.{◌≡◌, sym, ◌∙◌}
use mathlib.Core.Bool.{Bool, true, false}
use mathlib.Core.List.{List}
use mathlib.Core.Logic.{◌≢◌}
use Prim.Native.Nat.{ℕ, ◌+◌, ◌*◌, ◌≤◌, ◌<◌}
use native.Mathlib.Omega.{arith}
use lib.Dec.{eqb}
use lib.ListN.{length, replicate, length-set, length-replicate, get_or-replicate}
use Rattle.laws.specs.Sum.{when}
use Rattle.laws.specs.Row.{at}
use Rattle.laws.proofs.Sum.{when_here, when_else, when_at_most}
use Rattle.laws.proofs.Count.{bump, bump_at_most, Walked, walk_passes, walk_counts, walk_counts_two}
use Rattle.board.specs.Netlist.{Netlist}
use Rattle.board.specs.Board.{ends_at, InRange}
use Rattle.job.specs.declared.Job.{Job}
use Rattle.job.specs.Board.{board_of}

-- n counters, none above 2 for each of i nets
pub record Few (l : List ℕ) (n i : ℕ) : Type 0 where
  pub long : length l ≡ n
  pub most : (u : ℕ) → u < n → at l u ≤ 2 * i

pub few_none : (n : ℕ) → Few (replicate n 0) n 0
few_none n = record { long = length-replicate {A = ℕ} n 0; most = λ u h. omega (arith, get_or-replicate {A = ℕ} n u 0 0 h) }

module _ {l : List ℕ} {n i : ℕ} (few : Few l n i) where
  -- a net more, that counts nowhere, at v, at v and w
  pub few_pass : Few l n (i + 1)
  few_pass = record { long = few.long; most = λ u h. omega (arith, few.most u h) }

  pub few_one : (v : ℕ) → v < n → Few (bump l v) n (i + 1)
  few_one v q =
      record {
        long = omega (arith, few.long, length-set l v (at l v + 1));
        most = λ u h. omega (arith, few.most u h, bump_at_most l v u (omega (arith, few.long)));
      }

  pub few_two : (v w : ℕ) → v < n → w < n → Few (bump (bump l v) w) n (i + 1)
  few_two v w q r =
      record {
        long = omega (arith, few.long, length-set l v (at l v + 1), length-set (bump l v) w (at (bump l v) w + 1));
        most = λ u h.
            omega (arith, few.most u h, bump_at_most l v u (omega (arith, few.long)), bump_at_most (bump l v) w u (omega (arith, few.long, length-set l v (at l v + 1))));
      }

  -- one more at w is within 16 bits, also after one at v
  pub fits_once : i < 4096 → (w : ℕ) → w < n → at l w + 1 < 65536
  fits_once q w h = omega (arith, few.most w h)

  pub fits_twice : i < 4096 → (v w : ℕ) → v < n → w < n → at (bump l v) w + 1 < 65536
  fits_twice q v w r h = omega (arith, few.most w h, bump_at_most l v w (omega (arith, few.long)))

-- the ends of the nets that a test picks
module _ (J : Netlist) (t : ℕ → Bool) {l : List ℕ} (i : ℕ) (s : Walked (λ v j. when (t j) (ends_at J v j)) 256 l i) where
  pub ends_pass : t i ≡ false → Walked (λ v j. when (t j) (ends_at J v j)) 256 l (i + 1)
  ends_pass e = walk_passes (λ v j. when (t j) (ends_at J v j)) 256 i s (λ u _. rw e)

  pub ends_next : t i ≡ true → (v w : ℕ) → v < 256 → w < 256 → v ≡ J.first i → w ≡ J.second i
      → Walked (λ v j. when (t j) (ends_at J v j)) 256 (bump (bump l v) w) (i + 1)
  unfolding ends_at
  ends_next e v w lv lw ev ew = walk_counts_two (λ v j. when (t j) (ends_at J v j)) 256 i s v w lv lw (λ u _. rw (e, ev, ew))

-- the nets on each crossbar, of those that count: g i is 1 where net i counts, and else 0
module _ (a g : ℕ → ℕ) {l : List ℕ} (i : ℕ) (s : Walked (λ x j. when (eqb (a j) x) (g j)) 128 l i) where
  pub nets_pass : g i ≡ 0 → Walked (λ x j. when (eqb (a j) x) (g j)) 128 l (i + 1)
  nets_pass e = walk_passes (λ x j. when (eqb (a j) x) (g j)) 128 i s (λ x _. omega (arith, when_at_most (eqb (a i) x) (g i)))

  pub nets_next : g i ≡ 1 → a i < 128 → Walked (λ x j. when (eqb (a j) x) (g j)) 128 (bump l (a i)) (i + 1)
  nets_next e h = walk_counts (λ x j. when (eqb (a j) x) (g j)) 128 i s (a i) h (λ x _. rw e)

-- the ends of a net at FPGA v: at its first, or not there and as the second has it
module _ (J : Netlist) (v i : ℕ) where
  pub ends_first : (J.first i ≡ J.second i → ⊥) → J.first i ≡ v → ends_at J v i ≡ 1
  unfolding ends_at
  ends_first apart e = omega (arith, when_here (J.first i) 1 v e, when_else (J.second i) 1 v (λ q. apart (e ∙ sym q)))

  pub ends_second : J.first i ≢ v → ends_at J v i ≡ when (eqb (J.second i) v) 1
  unfolding ends_at
  ends_second ne = omega (arith, when_else (J.first i) 1 v ne)

-- the crossbar of a net in range is one of the 128
pub crossbar_low : (job : Job) → (a : ℕ → ℕ) → InRange (board_of job) a → (i : ℕ) → i < job.head.n → (x : ℕ) → x ≡ a i → x < 128
crossbar_low job a q i l x e = let p = job.well_formed in omega (arith, q i (omega (arith, p.n)), p.c, p.ranged.c_high)
