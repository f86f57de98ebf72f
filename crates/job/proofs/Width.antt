-- The usable width: even, at most m, and all of an even m. So what is legal is within m as written, and for even m the two are the same.
-- Assumes nothing.
use mathlib.Core.Path.{◌≡◌, refl, ap}
use mathlib.Core.List.{List}
use Prim.Native.Nat.{ℕ, ◌%◌, ◌≤◌}
use native.Mathlib.Omega.{arith}
use Rattle.board.specs.Board.{ends_at, load, Legal}
use Rattle.board.proofs.Excess.{legal_within, within_legal}
use Rattle.job.specs.Job.{m_in, usable_width, netlist_in, job_in, wired_in}

module _ (m : ℕ) where
  pub usable_even : usable_width m % 2 ≡ 0
  usable_even = omega arith

  pub usable_at_most : usable_width m ≤ m
  usable_at_most = omega arith

  pub even_usable : m % 2 ≡ 0 → usable_width m ≡ m
  even_usable e = omega arith

module _ (job : List ℕ) where
  -- a load counts nets, whatever the width
  load_wired : (a : ℕ → ℕ) (v x : ℕ) → load (wired_in job) a v x ≡ load (job_in job) a v x
  unfolding load ends_at
  load_wired a v x = refl

  -- within the usable width is within m
  pub legal_wired : (a : ℕ → ℕ) → Legal (job_in job) a → Legal (wired_in job) a
  legal_wired a z =
      within_legal (wired_in job) a (λ v x lv lx.
      let usable : load (job_in job) a v x ≤ usable_width (m_in job) = legal_within (job_in job) a z v x lv lx in
      let within : load (wired_in job) a v x ≤ m_in job = omega (arith, load_wired a v x) in
      within)

  -- on a board with an even number of wires all of them are usable
  pub even_wired : m_in job % 2 ≡ 0 → job_in job ≡ wired_in job
  even_wired e = ap (λ (w : ℕ). netlist_in job (λ _. w)) (even_usable (m_in job) e)
