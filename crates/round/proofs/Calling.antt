-- One round as a call: refused, settled or moved.
-- Assumes nothing.
use mathlib.Core.Path.{◌≡◌, refl, ap, subst}
use mathlib.Core.List.{List}
use Prim.Native.Nat.{ℕ}
use lib.ListN.{length, drop}
use denote.Ref.{Bor}
use Rattle.std.specs.Prelude.{Option, None, Some, Ok, Err}
use Rattle.laws.specs.Row.{at}
use Rattle.words.specs.declared.Refusal.{Refusal}
use Rattle.job.specs.declared.Job.{Job}
use Rattle.job.specs.Job.{n_in, job_in}
use Rattle.scratch.specs.Scratch.{scratch_long, cleared}
use Rattle.search.specs.declared.Over.{Over}
use Rattle.search.specs.Search.{search_of}
use Rattle.refusals.specs.Start.{round_verdict}
use Rattle.round.specs.OneRound.{round_answer, OneRound, Stepped}

-- a scratch that is cleared in the end is so from the start
pub cleared_since : (s₀ s s' : List ℕ) → s' ≡ cleared scratch_long s → drop scratch_long s ≡ drop scratch_long s₀ → s' ≡ cleared scratch_long s₀
unfolding cleared
cleared_since s₀ s s' e d = rw d at e

pub one_refused : (job plan s : List ℕ) (r : Refusal) → Err r ≡ round_verdict job plan (length s) → OneRound job plan plan s s (Err r)
one_refused job plan s r e =
    record {
      answer = ap (λ v. round_answer v (search_of (job_in job) (at plan))) e;
      memory = record { plan_same = refl; scratch_same = refl };
    }

module _ (job : Job) (plan s : List ℕ) (done : round_verdict job.bytes.now plan (length s) ≡ Ok tt)
    (plan' s₁ s' : List ℕ) (z : s' ≡ cleared scratch_long s₁) where
  one_settled : Stepped job plan plan' s s₁ None → OneRound job.bytes.now plan plan' s s' (Ok None)
  one_settled m =
      let same = m.memory.plan_same in
      record {
        answer = rw done (ap Ok m.named);
        memory = (
          same,
          record {
            long = ap length same;
            beyond = ap (λ (l : List ℕ). drop (n_in job.bytes.now) l) same;
            scratch_zero = cleared_since s s₁ s' z (ap (λ (l : List ℕ). drop scratch_long l) m.memory.scratch_same);
          },
        );
      }

  pub one_moved : (o : Over) → Stepped job plan plan' s s₁ (Some o) → OneRound job.bytes.now plan plan' s s' (Ok (Some o))
  one_moved o m =
      record {
        answer = rw done (ap Ok m.named);
        memory = (
          m.memory.rule,
          record {
            long = m.memory.plan_long;
            beyond = rw job.well_formed.n at m.memory.plan_beyond;
            scratch_zero = cleared_since s s₁ s' z m.memory.scratch_beyond;
          },
        );
      }

  one_of : (made : Option Over) → Stepped job plan plan' s s₁ made → OneRound job.bytes.now plan plan' s s' (Ok made)
  one_of None m = one_settled m
  one_of (Some o) m = one_moved o m

-- the same of bytes that this job was checked from
pub one_made : (job : Job) (bytes : Bor (List ℕ)) → job.bytes ≡ bytes → (plan s : List ℕ) → round_verdict bytes.now plan (length s) ≡ Ok tt
    → (plan' s₁ s' : List ℕ) → s' ≡ cleared scratch_long s₁ → (made : Option Over) → Stepped job plan plan' s s₁ made → OneRound bytes.now plan plan' s s' (Ok made)
one_made job bytes e plan s done plan' s₁ s' z made m =
    subst (λ (b : Bor (List ℕ)). OneRound b.now plan plan' s s' (Ok made)) e (one_of job plan s (rw e done) plan' s₁ s' z made m)
