-- The text reader's verdict on the values where no check refuses, and what a done verdict has shown.
-- Assumes nothing.
use mathlib.Core.Path.{◌≡◌}
use mathlib.Core.List.{List}
use Prim.Native.Nat.{ℕ, ◌≤◌}
use Rattle.std.specs.Prelude.{Ok}
use Rattle.words.proofs.Order.{then_first, then_second, then_done, long_enough}
use Rattle.job.specs.Job.{head_long}
use Rattle.job.specs.Check.{ranges_verdict, nets_verdict}
use Rattle.job_writer.specs.Write.{first_of, second_of, written_length}
use Rattle.text_reader.specs.ReadText.{read_verdict}

module _ (f c m n : ℕ) (ends : List ℕ) (room : ℕ) where
  pub all_done : ranges_verdict f c m n ≡ Ok tt → nets_verdict f head_long (first_of ends) (second_of ends) n ≡ Ok tt → written_length n ≤ room
      → read_verdict f c m n ends room ≡ Ok tt
  unfolding read_verdict
  all_done ranges lines h = then_done _ _ ranges (then_done _ _ lines ((long_enough room (written_length n)).1 h))

  -- what a done verdict has shown
  module _ (done : read_verdict f c m n ends room ≡ Ok tt) where
    pub read_ranges : ranges_verdict f c m n ≡ Ok tt
    unfolding read_verdict
    read_ranges = then_first _ _ done

    pub read_nets : nets_verdict f head_long (first_of ends) (second_of ends) n ≡ Ok tt
    unfolding read_verdict
    read_nets = then_first _ _ (then_second _ _ done)

    pub read_room : written_length n ≤ room
    unfolding read_verdict
    read_room = (long_enough room (written_length n)).0 (then_second _ _ (then_second _ _ done))
