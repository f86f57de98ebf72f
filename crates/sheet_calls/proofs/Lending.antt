-- Where 11 is not given, what is lent is long enough.
-- Assumes nothing.
use mathlib.Core.Path.{◌≡◌}
use mathlib.Core.List.{List}
use Prim.Native.Nat.{ℕ, ◌≤◌}
use Rattle.std.specs.Prelude.{Ok}
use Rattle.words.proofs.Order.{then_first, then_second, long_enough}
use Rattle.job.specs.Job.{n_in}
use Rattle.sheet.specs.Sheet.{sheet_length}
use Rattle.audit.specs.Audit.{lent_verdict}

module _ (job : List ℕ) (plan_length room_length : ℕ) (done : lent_verdict job plan_length room_length ≡ Ok tt) where
  pub plan_is_long : n_in job ≤ plan_length
  unfolding lent_verdict
  plan_is_long = (long_enough _ _).0 (then_first _ _ done)

  pub room_is_long : sheet_length job ≤ room_length
  unfolding lent_verdict
  room_is_long = (long_enough _ _).0 (then_second _ _ done)
