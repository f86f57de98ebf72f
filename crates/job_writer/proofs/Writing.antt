-- The writer's verdict where no check before the nets refuses, and what a done verdict has shown.
-- Assumes nothing.
use mathlib.Core.Path.{◌≡◌, refl}
use mathlib.Core.List.{List, [], ◌∷◌, ◌++◌}
use Prim.Native.Nat.{ℕ, ◌*◌, ◌≤◌}
use lib.ListN.{length, take, drop}
use borrow.Author.Tests.{le-ltb}
use Rattle.std.specs.Prelude.{Ok}
use Rattle.words.specs.Verdict.{refuse_if, ◌then◌}
use Rattle.words.specs.Number.{bytes}
use Rattle.words.specs.Lent.{onto}
use Rattle.words.proofs.Bytes.{write_more}
use Rattle.words.proofs.Order.{then_first, then_second, long_enough}
use Rattle.job.specs.Job.{head_long}
use Rattle.job.specs.Check.{ranges_verdict, nets_verdict}
use Rattle.job_writer.specs.Write.{first_of, second_of, written_length, write_verdict, job_of}

module _ (f c m n : ℕ) (ends : List ℕ) (room : ℕ) where
  pub by_ends : ranges_verdict f c m n ≡ Ok tt → 2 * n ≤ length ends → written_length n ≤ room
      → write_verdict f c m n ends room ≡ nets_verdict f head_long (first_of ends) (second_of ends) n
  unfolding write_verdict refuse_if ◌then◌
  by_ends ranges enough h = simp (ranges, le-ltb _ _ enough, le-ltb _ _ h)

  -- what a done verdict has shown
  module _ (done : write_verdict f c m n ends room ≡ Ok tt) where
    pub wrote_ranges : ranges_verdict f c m n ≡ Ok tt
    unfolding write_verdict
    wrote_ranges = then_first _ _ done

    pub wrote_enough : 2 * n ≤ length ends
    unfolding write_verdict
    wrote_enough = (long_enough _ _).0 (then_first _ _ (then_second _ _ done))

    pub wrote_room : written_length n ≤ room
    unfolding write_verdict
    wrote_room = (long_enough _ _).0 (then_first _ _ (then_second _ _ (then_second _ _ done)))

    pub wrote_nets : nets_verdict f head_long (first_of ends) (second_of ends) n ≡ Ok tt
    unfolding write_verdict
    wrote_nets = then_second _ _ (then_second _ _ (then_second _ _ done))

-- the five numbers of the head, and the nets behind them
pub head_then_nets : (f c m n count : ℕ) (ends r room new : List ℕ) → count ≡ 2 * n → room ≡ onto (bytes (3 ∷ f ∷ c ∷ m ∷ n ∷ [])) r
    → new ≡ take head_long room ++ onto (bytes (take count ends)) (drop head_long room) → new ≡ onto (job_of f c m n ends) r
unfolding job_of
head_then_nets f c m n count ends r room new e q z = write_more (3 ∷ f ∷ c ∷ m ∷ n ∷ []) (take (2 * n) ends) r room new head_long q refl (rw e at z)
