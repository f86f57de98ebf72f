-- A step: what it asks of the recolouring, and that it is a round by the rule, after which another can be made.
-- Assumes nothing.
use mathlib.Core.Path.{◌≡◌, sym}
use mathlib.Core.List.{List}
use Prim.Native.Nat.{ℕ}
use native.Mathlib.Omega.{arith}
use Rattle.std.specs.Prelude.{None, Some}
use Rattle.laws.specs.Row.{at}
use Rattle.job.specs.declared.Job.{Job}
use Rattle.job.specs.Board.{board_of}
use Rattle.board.specs.Board.{Legal}
use Rattle.search.specs.declared.Over.{Over}
use Rattle.search.specs.Search.{search_of}
use Rattle.search.proofs.Answers.{settled-legal, over-lowest, named-if}
use Rattle.recolour.specs.Recolour.{RecolourAsked}
use Rattle.round.specs.Round.{RoundStep}
use Rattle.refusals.specs.Start.{Ready}
use Rattle.round.specs.OneRound.{Stepped}
use Rattle.round.proofs.Condition3.{condition3}

module _ (job : Job) (plan s : List ℕ) where
  -- what is recoloured is what the search names
  pub step_asked : Ready job plan s → (o : Over) → Some o ≡ search_of (board_of job) (at plan) → RecolourAsked job plan o.crowded.0 o.room.0 s
  step_asked ready o e =
      let v = o.fpga.0 in
      let l = over-lowest (board_of job) (at plan) v o.crowded.0 o.room.0 (sym e) in
      record {
        every_net = ready.fitting.every_net;
        two = (named-if (board_of job) (at plan) v o.crowded.0 o.room.0 ready.in_range (ready.fitting.within v l.fpga) (sym e)).apart;
        scratch = ready.fitting.scratch_is_long;
      }

  module _ (plan' s' : List ℕ) where
    -- nothing was over
    pub step_legal : Stepped job plan plan' s s' None → Legal (board_of job) (at plan)
    step_legal m = (settled-legal (board_of job) (at plan)).0 (sym m.named)

    -- a round was made
    module _ (ready : Ready job plan s) (o : Over) (m : Stepped job plan plan' s s' (Some o)) where
      pub step_round : RoundStep (board_of job) (at plan) (at plan')
      step_round = record { v = o.fpga.0; A = o.crowded.0; B = o.room.0; named = sym m.named; rule = m.memory.rule }

      pub step_ready : Ready job plan' s'
      step_ready =
          let f = ready.fitting in
          record {
            fitting = record {
              every_net = omega (arith, f.every_net, m.memory.plan_long);
              scratch_is_long = omega (arith, f.scratch_is_long, m.memory.scratch_is_long);
              within = f.within;
            };
            in_range = (condition3 (board_of job) (at plan) (at plan') step_round f.within ready.in_range).in_range;
          }
