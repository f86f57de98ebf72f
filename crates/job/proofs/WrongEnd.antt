-- What a net's refusal points at: the number at byte q of the job is the wrong one, and it stands in net p.
-- Assumes nothing.
use Rattle.words.specs.declared.Reason.TheVariants as reason
use mathlib.Core.Path.{◌≡◌, refl, sym}
use mathlib.Core.List.{List}
use Prim.Native.Nat.{ℕ, ◌≤◌, ◌<◌}
use borrow.Author.Tests.{leb-true, leb-false, eqb-true}
use Rattle.words.specs.declared.Place.{Place}
use Rattle.words.specs.declared.Place.TheVariants.{Byte, Net, End, Fpga, Crossbar, Load, Length, Line, Nowhere}
use Rattle.words.specs.declared.Reason.{Reason}
use Rattle.words.specs.declared.Refusal.{Refusal}
use Rattle.words.specs.Verdict.{refuse, at_end}
use Rattle.words.specs.Number.{word}
use Rattle.words.proofs.Order.{passed}
use Rattle.words.proofs.Always.{Always, always_if, always_then, always_first}
use Rattle.job.specs.Job.{nets_at, first_at, second_at, f_in, n_in, first_in, second_in}
use Rattle.job.specs.Check.{net_verdict, nets_verdict, job_verdict}
use Rattle.job.proofs.Places.{head_always, length_always}

-- byte q holds a number of net p, by the refusal's reason the first or the second, and that number is wrong
abbrev PointsAt : List ℕ → Reason → ℕ → ℕ → Type 0
PointsAt job k p q =
    (p < n_in job)
    × (k ≡ reason.FirstEnd → (q ≡ first_at (nets_at job) p) × (f_in job ≤ word job q))
    × (k ≡ reason.SecondEnd → (q ≡ second_at (nets_at job) p) × (f_in job ≤ word job q) × (first_in job p < f_in job))
    × (k ≡ reason.SameEnd → (q ≡ second_at (nets_at job) p) × (word job q < f_in job) × (word job q ≡ first_in job p))

abbrev IfEnd : (ℕ → ℕ → Type 0) → Place → Type 0
IfEnd P (Byte i) = Unit
IfEnd P (Net i) = Unit
IfEnd P (End i at) = P i.0 at
IfEnd P (Fpga v) = Unit
IfEnd P (Crossbar x) = Unit
IfEnd P (Load v x) = Unit
IfEnd P (Length n) = Unit
IfEnd P (Line line byte) = Unit
IfEnd P Nowhere = Unit

abbrev Right : List ℕ → Refusal → Type 0
Right job r = IfEnd (PointsAt job r.reason) r.place

module _ (job : List ℕ) where
  net_right : (i : ℕ) → i < n_in job → Always (Right job) (net_verdict (f_in job) (nets_at job) i (first_in job i) (second_in job i))
  unfolding net_verdict
  net_right i l =
      always_then _ _ (always_if _ reason.FirstEnd _ (λ t. (l, λ _. (refl, leb-true _ _ t), λ e. cc, λ e. cc))) (λ first.
      let below : first_in job i < f_in job = leb-false _ _ (passed _ reason.FirstEnd _ first) in
      always_then _ _ (always_if _ reason.SecondEnd _ (λ t. (l, λ e. cc, λ _. (refl, leb-true _ _ t, below), λ e. cc))) (λ second.
      always_if _ reason.SameEnd _ (λ t. (l, λ e. cc, λ e. cc, λ _. (refl, leb-false _ _ (passed _ reason.SecondEnd _ second), sym (eqb-true _ _ t))))))

  job_right : Always (Right job) (job_verdict job)
  unfolding job_verdict nets_verdict
  job_right =
      always_then _ _ (head_always job (Right job) (λ _ _. tt) (λ _ _. tt)) (λ _.
      always_then _ _ (length_always job (Right job) (λ _ _. tt) (λ _ _. tt)) (λ _. always_first _ (n_in job) net_right))

  module _ (p q : ℕ) where
    -- 9: the first number of net p
    pub nine_points : job_verdict job ≡ refuse reason.FirstEnd (at_end p q) → (p < n_in job) × (q ≡ first_at (nets_at job) p) × (f_in job ≤ word job q)
    nine_points e = let h = rw e at job_right.holds in let w = h.1 refl in (h.0, w.0, w.1)

    -- 27: its second number, and the first is right
    pub twenty_seven_points : job_verdict job ≡ refuse reason.SecondEnd (at_end p q)
        → (p < n_in job) × (q ≡ second_at (nets_at job) p) × (f_in job ≤ word job q) × (first_in job p < f_in job)
    twenty_seven_points e = let h = rw e at job_right.holds in let w = h.2 refl in (h.0, w.0, w.1, w.2)

    -- 10: its second number, which is the first again
    pub ten_points : job_verdict job ≡ refuse reason.SameEnd (at_end p q) → (p < n_in job) × (q ≡ second_at (nets_at job) p) × (word job q < f_in job) × (word job q ≡ first_in job p)
    ten_points e = let h = rw e at job_right.holds in let w = h.3 refl in (h.0, w.0, w.1, w.2)
