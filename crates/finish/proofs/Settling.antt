-- Rounds one after the other: each lengthens the chain, and the last one leaves the assignment legal.
-- Assumes nothing.
use mathlib.Core.Path.{◌≡◌, refl, ◌∙◌}
use mathlib.Core.List.{List}
use Prim.Native.Nat.{ℕ, ◌+◌, ◌≤◌}
use native.Mathlib.Omega.{arith}
use Rattle.std.specs.Prelude.{Bool, false, true, not, is_some, Option, None, Some}
use Rattle.laws.specs.Row.{at}
use Rattle.job.specs.declared.Job.{Job}
use Rattle.job.specs.Board.{board_of}
use Rattle.board.specs.Board.{total_excess}
use Rattle.scratch.specs.Scratch.{scratch_long, cleared}
use Rattle.search.specs.declared.Over.{Over}
use Rattle.round.specs.Round.{Chain}
use Rattle.refusals.specs.Start.{Ready}
use Rattle.round.specs.OneRound.{Stepped}
use Rattle.round.proofs.Chains.{chain_more, chain_short, finish_ends}
use Rattle.round.proofs.Stepping.{step_legal, step_round, step_ready}
use Rattle.round.proofs.Calling.{cleared_since}
use Rattle.finish.specs.Finish.{Chained, SettledIn, FinishedIn}

module _ (job : Job) (plan₀ s₀ : List ℕ) (ready₀ : Ready job plan₀ s₀) where
  -- no round yet
  pub chained_none : Chained job plan₀ plan₀ s₀ s₀ 0
  chained_none = record { ready = ready₀; chain = Chain.none; long = refl; beyond = refl; scratch_is_long = refl; scratch_beyond = refl }

  module _ (plan s : List ℕ) (k : ℕ) (q : Chained job plan₀ plan s₀ s k) where
    -- as many rounds as the excess before the first leave none
    pub chained_enough : total_excess (board_of job) (at plan₀) ≤ k → SettledIn job plan₀ plan s₀ s k
    chained_enough l =
        let within = ready₀.fitting.within in
        let few = chain_short (board_of job) (at plan₀) within ready₀.in_range q.chain in
        record { chained = q; legal = finish_ends (board_of job) (at plan₀) within ready₀.in_range q.chain (omega (arith, l, few)) }

    module _ (plan' s' : List ℕ) where
      -- a round was made
      pub chained_more : (r : Option Over) (settled : Bool) → is_some r ≡ not settled → settled ≡ false → Stepped job plan plan' s s' r
          → Chained job plan₀ plan' s₀ s' (k + 1)
      chained_more None settled is f m = let z : false ≡ true = rw f at is in cc
      chained_more (Some o) settled is f m =
          let u = m.memory in
          record {
            ready = step_ready job plan s plan' s' q.ready o m;
            chain = chain_more (board_of job) (at plan₀) q.chain (step_round job plan s plan' s' q.ready o m);
            long = u.plan_long ∙ q.long;
            beyond = u.plan_beyond ∙ q.beyond;
            scratch_is_long = u.scratch_is_long ∙ q.scratch_is_long;
            scratch_beyond = u.scratch_beyond ∙ q.scratch_beyond;
          }

      -- nothing is over any more
      pub chained_settled : (r : Option Over) (settled : Bool) → is_some r ≡ not settled → settled ≡ true → Stepped job plan plan' s s' r
          → SettledIn job plan₀ plan' s₀ s' k
      chained_settled None settled is t m =
          let legal = step_legal job plan s plan' s' m in
          rw (m.memory.plan_same, m.memory.scratch_same) (record { chained = q; legal = legal })
      chained_settled (Some o) settled is t m = let z : true ≡ false = rw t at is in cc

  -- the answer, once the scratch is cleared
  pub answered : (plan s s' : List ℕ) (k e : ℕ) → SettledIn job plan₀ plan s₀ s k → s' ≡ cleared scratch_long s → e ≡ total_excess (board_of job) (at plan₀)
      → FinishedIn job.bytes.now plan₀ plan s₀ s' k e
  answered plan s s' k e t z x =
      record {
        finished = record { chain = t.chained.chain; legal = t.legal; excess = x };
        memory = record {
          long = t.chained.long;
          beyond = rw job.well_formed.n at t.chained.beyond;
          scratch_zero = cleared_since s₀ s s' z t.chained.scratch_beyond;
        };
      }
