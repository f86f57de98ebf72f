-- The stages of the check: where one refuses, where all are done, and what each has shown when it is done.
-- Assumes nothing.
use Rattle.words.specs.declared.Reason.TheVariants as reason
use mathlib.Core.Path.{◌≡◌, refl, ◌∙◌}
use mathlib.Core.Bool.{Bool, true, false, ◌||◌, true≢false}
use mathlib.Core.List.{List}
use Prim.Native.Nat.{ℕ, ◌≤◌, ◌<◌}
use native.Mathlib.Omega.{arith}
use lib.Dec.{ltb}
use lib.ListN.{length}
use borrow.Author.Tests.{le-ltb, ltb-false, leb-false, eqb-true, eqb-false, not-false, eq-eqb, lt-ltb}
use Rattle.std.specs.Prelude.{Ok, Err}
use Rattle.words.specs.declared.Refusal.{Refusal}
use Rattle.words.specs.Verdict.{refuse, of_length, refuse_if, ◌then◌}
use Rattle.words.specs.Number.{word}
use Rattle.words.proofs.Order.{then_first, then_second, then_refused, then_next, passed, first_done}
use Rattle.job.specs.Job.{head_long, nets_at, job_length, f_in, c_in, m_in, n_in, first_in, second_in}
use Rattle.job.specs.Check.{outside, short_verdict, count_verdict, ranges_verdict, head_verdict, length_verdict, net_verdict, nets_verdict, job_verdict, Ranged, Joins}

-- ---- 3 to 7

or_false : (a b : Bool) → (a || b) ≡ false → (a ≡ false) × (b ≡ false)
or_false true b h = absurd (true≢false h)
or_false false b h = (refl, h)

inside : (low high x : ℕ) → outside low high x ≡ false → (low ≤ x) × (x ≤ high)
unfolding outside
inside low high x h = let o = or_false (ltb x low) (ltb high x) h in (ltb-false _ _ o.0, ltb-false _ _ o.1)

pub ranged : (f c m n : ℕ) → ranges_verdict f c m n ≡ Ok tt → Ranged f c m n
unfolding ranges_verdict
ranged f c m n h =
    let h2 = then_second _ _ h in
    let h3 = then_second _ _ h2 in
    let h4 = then_second _ _ h3 in
    let rf = inside 1 256 f (passed _ reason.FpgaCount _ (then_first _ _ h)) in
    let rc = inside 1 128 c (passed _ reason.CrossbarCount _ (then_first _ _ h2)) in
    let rm = inside 1 64 m (passed _ reason.WireCount _ (then_first _ _ h3)) in
    let not-one : m ≡ 1 → ⊥ = eqb-false _ _ (passed _ reason.LoneWire _ (then_first _ _ h4)) in
    record {
      f_low = rf.0;
      f_high = rf.1;
      c_low = rc.0;
      c_high = rc.1;
      m_low = omega (arith, rm.0, not-one);
      m_high = rm.1;
      n_high = ltb-false _ _ (passed _ reason.NetCount _ (then_second _ _ h4));
    }

-- ---- 9, 27 and 10

pub joins : (f start i v w : ℕ) → net_verdict f start i v w ≡ Ok tt → Joins f v w
unfolding net_verdict
joins f start i v w h =
    let h2 = then_second _ _ h in
    record {
      first_below = leb-false _ _ (passed _ reason.FirstEnd _ (then_first _ _ h));
      second_below = leb-false _ _ (passed _ reason.SecondEnd _ (then_first _ _ h2));
      apart = eqb-false _ _ (passed _ reason.SameEnd _ (then_second _ _ h2));
    }

pub all_join : (f start : ℕ) (first second : ℕ → ℕ) (n : ℕ) → nets_verdict f start first second n ≡ Ok tt → (i : ℕ) → i < n → Joins f (first i) (second i)
unfolding nets_verdict
all_join f start first second n h i l = joins f start i (first i) (second i) (first_done (λ k. net_verdict f start k (first k) (second k)) n h i l)

module _ (job : List ℕ) where
  -- ---- the head

  pub long_enough : short_verdict job ≡ Ok tt → head_long ≤ length job
  unfolding short_verdict
  long_enough h = ltb-false _ _ (passed _ reason.JobShort _ h)

  pub too_short : length job < head_long → head_verdict job ≡ refuse reason.JobShort (of_length (length job))
  unfolding head_verdict short_verdict refuse_if ◌then◌
  too_short h = simp (lt-ltb _ _ h)

  pub by_ranges : head_long ≤ length job → word job 0 ≡ 3 → head_verdict job ≡ ranges_verdict (f_in job) (c_in job) (m_in job) (n_in job)
  unfolding head_verdict short_verdict count_verdict refuse_if ◌then◌
  by_ranges long h = simp (le-ltb _ _ long, eq-eqb _ _ h)

  module _ (done : head_verdict job ≡ Ok tt) where
    pub head_is_long : head_long ≤ length job
    unfolding head_verdict
    head_is_long = long_enough (then_first _ _ done)

    pub three : word job 0 ≡ 3
    unfolding head_verdict count_verdict
    three = eqb-true _ _ (not-false _ (passed _ reason.BoardCount _ (then_first _ _ (then_second _ _ done))))

    pub its_ranges : ranges_verdict (f_in job) (c_in job) (m_in job) (n_in job) ≡ Ok tt
    unfolding head_verdict
    its_ranges = then_second _ _ (then_second _ _ done)

  -- ---- the length

  pub right_length : length job ≡ job_length job → length_verdict job ≡ Ok tt
  unfolding length_verdict refuse_if ◌then◌
  right_length h = simp (le-ltb (length job) (job_length job) (omega arith), le-ltb (job_length job) (length job) (omega arith))

  pub its_length : length_verdict job ≡ Ok tt → length job ≡ job_length job
  unfolding length_verdict
  its_length done =
      let cut : job_length job ≤ length job = ltb-false _ _ (passed _ reason.JobShort _ (then_first _ _ done)) in
      let more : length job ≤ job_length job = ltb-false _ _ (passed _ reason.JobLong _ (then_second _ _ done)) in
      omega arith

  -- ---- all of them

  pub refused_head : (r : Refusal) → head_verdict job ≡ Err r → job_verdict job ≡ Err r
  unfolding job_verdict
  refused_head r h = then_refused _ _ r h

  pub by_nets : head_verdict job ≡ Ok tt → length_verdict job ≡ Ok tt → job_verdict job ≡ nets_verdict (f_in job) (nets_at job) (first_in job) (second_in job) (n_in job)
  unfolding job_verdict
  by_nets head long = then_next _ _ head ∙ then_next _ _ long

  module _ (done : job_verdict job ≡ Ok tt) where
    pub its_head : head_verdict job ≡ Ok tt
    unfolding job_verdict
    its_head = then_first _ _ done

    pub its_end : length_verdict job ≡ Ok tt
    unfolding job_verdict
    its_end = then_first _ _ (then_second _ _ done)

    pub its_nets : nets_verdict (f_in job) (nets_at job) (first_in job) (second_in job) (n_in job) ≡ Ok tt
    unfolding job_verdict
    its_nets = then_second _ _ (then_second _ _ done)
