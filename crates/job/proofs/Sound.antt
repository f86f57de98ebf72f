-- The netlist of a job that passed the check is sound.
-- Assumes nothing.
use mathlib.Core.List.{List}
use Prim.Native.Nat.{ℕ, ◌<◌}
use native.Mathlib.Omega.{arith}
use Rattle.board.specs.Board.{Sound}
use Rattle.job.specs.declared.Head.{Head}
use Rattle.job.specs.Job.{m_in, job_in}
use Rattle.job.specs.Check.{WellFormed}
use Rattle.job.proofs.Width.{usable_even}

pub sound : (job : List ℕ) (h : Head) → WellFormed job h → Sound (job_in job)
sound job h p =
    let inside : (i : ℕ) → i < (job_in job).n → i < h.n = λ i l. omega (arith, p.n) in
    record {
      some_crossbar = omega (arith, p.c, p.ranged.c_low);
      even = λ v. usable_even (m_in job);
      first_below = λ i l. omega (arith, p.f, (p.nets i (inside i l)).first_below);
      second_below = λ i l. omega (arith, p.f, (p.nets i (inside i l)).second_below);
      apart = λ i l. (p.nets i (inside i l)).apart;
    }
