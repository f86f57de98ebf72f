-- The parts of a listing, one behind the other.
-- Assumes nothing.
use mathlib.Core.Path.{◌≡◌, refl, sym, ap, ◌∙◌}
use mathlib.Core.List.{List, [], ◌∷◌}
use Prim.Native.Nat.{ℕ, zero, suc, ◌<◌}
use native.Mathlib.Omega.{arith}
use lib.ListN.{length, take}
use lib.Seq.{length-take-le, get_or-take}
use Rattle.laws.specs.Row.{at}
use Rattle.laws.specs.Count.{Counted}
use Rattle.job.specs.declared.Job.{Job}
use Rattle.job.specs.Board.{board_of}
use Rattle.board.specs.Netlist.{Netlist}
use Rattle.board.specs.Board.{total}
use Rattle.text.specs.declared.Text.{Text}
use Rattle.text.specs.Text.{each}
use Rattle.text.specs.Lent.{Gains}
use Rattle.text.specs.Forms.{line}
use Rattle.text.proofs.Gaining.{gains_both}
use Rattle.lines.specs.Lines.{crossbar_word, board_line, rounds_line, net_line, crossbar_line}
use Rattle.list.specs.Listing.{plan_lines}

-- two series that agree below n
pub each_same : (f g : ℕ → List ℕ) (n : ℕ) → ((i : ℕ) → i < n → f i ≡ g i) → each f n ≡ each g n
unfolding each
each_same f g zero e = refl
each_same f g (suc n) e = rw (each_same f g n (λ i l. e i (omega arith)), e n (omega arith))

-- the four parts of a plan's listing, where the totals are those of the job
module _ (job : Job) (plan totals : List ℕ) (counted : (J : Netlist) → J.n ≡ job.head.n → Counted totals 128 (total J (at plan))) where
  abbrev J : Netlist
  J = board_of job

  -- those of the crossbars that the board has
  abbrev used : List ℕ
  used = take job.head.c totals

  long : length used ≡ job.head.c
  long = length-take-le _ _ (omega (arith, (counted J (sym job.well_formed.n)).long, job.well_formed.ranged.c_high))

  same_totals : each (λ x. line crossbar_word (x ∷ at used x ∷ [])) (length used) ≡ each (crossbar_line J (at plan)) job.head.c
  same_totals =
      ap (each (λ x. line crossbar_word (x ∷ at used x ∷ []))) long
      ∙ each_same _ _ job.head.c (λ x l. ap (λ (n : ℕ). line crossbar_word (x ∷ n ∷ []))
      (get_or-take job.head.c totals x 0 l ∙ (counted J (sym job.well_formed.n)).count x (omega (arith, job.well_formed.c, job.well_formed.ranged.c_high))))

  pub plan_told : (t u v w x : Text) (k s : ℕ) → Gains t u (board_line job.bytes.now) → Gains u v (rounds_line k s)
      → Gains v w (each (net_line J (at plan)) job.head.n) → Gains w x (each (λ x. line crossbar_word (x ∷ at used x ∷ [])) (length used))
      → Gains t x (plan_lines job.bytes.now plan k s)
  unfolding plan_lines
  plan_told t u v w x k s q r n z =
      let e : Gains w x (each (crossbar_line J (at plan)) job.head.c) = rw same_totals at z in
      let all = gains_both t u x _ _ q (gains_both u v x _ _ r (gains_both v w x _ _ n e)) in
      rw (job.well_formed.n, job.well_formed.c) at all
