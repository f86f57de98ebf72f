-- The head and the length are refused at a byte or for the length: what holds of such refusals holds of every refusal of these two stages.
-- Assumes nothing.
use mathlib.Core.List.{List}
use Prim.Native.Nat.{ℕ}
use Rattle.words.specs.declared.Reason.{Reason}
use Rattle.words.specs.declared.Reason.TheVariants as reason
use Rattle.words.specs.declared.Refusal.{Refusal}
use Rattle.words.specs.Verdict.{at_byte, of_length}
use Rattle.words.proofs.Always.{Always, always_if, always_then}
use Rattle.job.specs.Check.{short_verdict, count_verdict, ranges_verdict, head_verdict, length_verdict}

module _ (job : List ℕ) (P : Refusal → Type 0) (byte : (k : Reason) (at : ℕ) → P (record { reason = k; place = at_byte at }))
    (long : (k : Reason) (n : ℕ) → P (record { reason = k; place = of_length n })) where
  pub head_always : Always P (head_verdict job)
  unfolding head_verdict short_verdict count_verdict ranges_verdict
  head_always =
      always_then _ _ (always_if _ reason.JobShort _ (λ _. long _ _)) (λ _.
      always_then _ _ (always_if _ reason.BoardCount _ (λ _. byte _ _)) (λ _.
      always_then _ _ (always_if _ reason.FpgaCount _ (λ _. byte _ _)) (λ _.
      always_then _ _ (always_if _ reason.CrossbarCount _ (λ _. byte _ _)) (λ _.
      always_then _ _ (always_if _ reason.WireCount _ (λ _. byte _ _)) (λ _.
      always_then _ _ (always_if _ reason.LoneWire _ (λ _. byte _ _)) (λ _. always_if _ reason.NetCount _ (λ _. byte _ _)))))))

  pub length_always : Always P (length_verdict job)
  unfolding length_verdict
  length_always = always_then _ _ (always_if _ reason.JobShort _ (λ _. long _ _)) (λ _. always_if _ reason.JobLong _ (λ _. byte _ _))
