-- The excess summed crossbar by crossbar.
-- Assumes nothing.
use mathlib.Core.Path.{◌≡◌, ap, sym, ◌∙◌}
use mathlib.Core.List.{List}
use Prim.Native.Nat.{ℕ, ◌-◌}
use native.Mathlib.Omega.{arith}
use Rattle.laws.specs.Sum.{sum}
use Rattle.laws.specs.Row.{at}
use Rattle.laws.specs.Count.{Counted}
use Rattle.laws.proofs.Sum.{sum_same, sum_swap}
use Rattle.board.specs.Netlist.{Netlist}
use Rattle.board.specs.Board.{load, excess, total_excess}
use Rattle.job.specs.declared.Job.{Job}
use Rattle.job.specs.Board.{board_of}

-- what the loads at crossbar x are above the widths, together
unfoldable pub excess_on : Netlist → (ℕ → ℕ) → ℕ → ℕ
excess_on J a x = sum (λ v. load J a v x - J.width v) J.f

pub excess_by_crossbar : (J : Netlist) (a : ℕ → ℕ) → total_excess J a ≡ sum (excess_on J a) J.c
unfolding total_excess excess excess_on
excess_by_crossbar J a = sum_swap (λ v x. load J a v x - J.width v) J.c J.f

module _ (job : Job) (a : ℕ → ℕ) where
  -- by the counters of one crossbar
  pub excess_counted : {count : List ℕ} (x : ℕ) → Counted count 256 (λ v. load (board_of job) a v x)
      → sum (λ v. at count v - (board_of job).width v) job.head.f ≡ excess_on (board_of job) a x
  unfolding excess_on
  excess_counted {count} x k =
      sum_same (λ v. at count v - (board_of job).width v) (λ v. load (board_of job) a v x - (board_of job).width v) job.head.f (λ v l.
      omega (arith, k.count v (omega (arith, job.well_formed.ranged.f_high))))
      ∙ ap (sum (λ v. load (board_of job) a v x - (board_of job).width v)) job.well_formed.f

  pub excess_all : (x : ℕ) → x ≡ job.head.c → sum (excess_on (board_of job) a) x ≡ total_excess (board_of job) a
  excess_all x e = ap (sum (excess_on (board_of job) a)) (e ∙ job.well_formed.c) ∙ sym (excess_by_crossbar (board_of job) a)
