-- The parts of a sheet, written behind each other.
-- Assumes nothing.
use mathlib.Core.Path.{◌≡◌, ap, ◌∙◌}
use mathlib.Core.List.{List, [], ◌∷◌, ◌++◌, append_assoc}
use Prim.Native.Nat.{ℕ, ◌+◌, ◌≤◌, ◌<◌}
use native.Mathlib.Numerals.{add-one}
use native.Mathlib.Omega.{arith}
use lib.ListN.{length, get_or, take, drop, set, length-append}
use lib.Seq.{length-take-le, take-suc}
use Rattle.laws.specs.Row.{at}
use Rattle.laws.specs.Count.{Counted}
use Rattle.laws.proofs.Row.{row_take, row_same}
use Rattle.words.specs.Lent.{onto}
use Rattle.words.specs.Number.{bytes}
use Rattle.words.proofs.Bytes.{length_bytes, bytes_append, onto_onto, onto_next}
use Rattle.board.specs.Board.{total}
use Rattle.job.specs.declared.Head.{Head}
use Rattle.job.specs.Job.{c_in, n_in, job_in}
use Rattle.job.specs.Check.{WellFormed}
use Rattle.sheet.specs.Sheet.{totals_count_at, totals_at, sheet_numbers, sheet_of}

-- one more byte of a copy
pub copy_next : (s r room : List ℕ) (i : ℕ) → i < length s → length s ≤ length r → room ≡ onto (take i s) r → set room i (get_or s i 0) ≡ onto (take (i + 1) s) r
copy_next s r room i l h e =
    let more : take i s ++ (get_or s i 0 ∷ []) ≡ take (i + 1) s = rw (add-one, take-suc s i 0) in
    ap (λ (t : List ℕ). set t i (get_or s i 0)) e
    ∙ onto_next (take i s) r (get_or s i 0) i (length-take-le i s (omega arith)) (omega arith)
    ∙ ap (λ (t : List ℕ). onto t r) more

-- numbers behind what stands at the front of a room
put_behind : (front xs r room new : List ℕ) (start : ℕ) → room ≡ onto front r → length front ≡ start → new ≡ take start room ++ onto (bytes xs) (drop start room) → new ≡ onto (front ++ bytes xs) r
put_behind front xs r room new start q e z = rw (z, q) (onto_onto front (bytes xs) r start e)

module _ (job : List ℕ) (h : Head) (p : WellFormed job h) (plan totals r room₁ room₂ room₃ room₄ : List ℕ) (every : h.n ≤ length plan) (counted : Counted totals 128 (total (job_in job) (at plan))) where
  pub sheet_put : room₁ ≡ onto (take h.start job) r
      → room₂ ≡ take h.start room₁ ++ onto (bytes (take h.n plan)) (drop h.start room₁)
      → room₃ ≡ take (totals_count_at job) room₂ ++ onto (bytes (h.c ∷ [])) (drop (totals_count_at job) room₂)
      → room₄ ≡ take (totals_at job) room₃ ++ onto (bytes (take h.c totals)) (drop (totals_at job) room₃)
      → room₄ ≡ onto (sheet_of job (at plan)) r
  unfolding sheet_of
  sheet_put e₁ e₂ e₃ e₄ =
      let l₁ = length-take-le h.start job (omega (arith, p.long)) in
      let l₂ = length_bytes (take h.n plan) in
      let l₃ = length-take-le h.n plan every in
      let first = take h.start job in
      let second = first ++ bytes (take h.n plan) in
      let q₂ = put_behind first (take h.n plan) r room₁ room₂ h.start e₁ l₁ e₂ in
      let q₃ = put_behind second (h.c ∷ []) r room₂ room₃ (totals_count_at job) q₂ (simp length-append (omega (arith, p.start, p.n))) e₃ in
      put_behind (second ++ bytes (h.c ∷ [])) (take h.c totals) r room₃ room₄ (totals_at job) q₃ (simp length-append (omega (arith, p.start, p.n))) e₄
      ∙ rw (p.start, p.n, p.c, ← all_numbers) (simp (append_assoc, bytes_append))
    where
      all_numbers : take (n_in job) plan ++ (c_in job ∷ take (c_in job) totals) ≡ sheet_numbers job (at plan)
      all_numbers =
          rw (
            row_take plan (n_in job) (omega (arith, p.n)),
            ← row_take totals (c_in job) (omega (arith, counted.long, p.c, p.ranged.c_high)),
            row_same (at totals) (total (job_in job) (at plan)) (c_in job) (λ x l. counted.count x (omega (arith, p.c, p.ranged.c_high))),
          )
