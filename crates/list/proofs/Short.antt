-- How long a listing is, and that it stands whole at the front of a room that is long enough.
-- Assumes nothing.
use mathlib.Core.Path.{◌≡◌, ap, ◌∙◌}
use mathlib.Core.List.{List, [], ◌∷◌}
use Prim.Native.Nat.{ℕ, zero, suc, ◌≤◌, ◌<◌}
use native.Mathlib.Omega.{arith}
use lib.ListN.{length, length-append}
use Rattle.laws.specs.Row.{at}
use Rattle.words.specs.Lent.{onto}
use Rattle.job.specs.declared.Job.{Job}
use Rattle.job.specs.Board.{board_of}
use Rattle.board.specs.Netlist.{Netlist}
use Rattle.board.specs.Board.{InRange}
use Rattle.board.proofs.Loads.{total_at_most}
use Rattle.text.specs.Text.{Text}
use Rattle.text.proofs.Putting.{puts_whole}
use Rattle.text.proofs.Lengths.{spaced_short, each_short, line_short}
use Rattle.lines.specs.Lines.{board_word, net_word, crossbar_word, board_line, rounds_line, net_line, crossbar_line}
use Rattle.list.specs.Listing.{plan_lines, listing_of, listing_long, Listed}

-- at most four numbers below 10,000
few : (k p q r s : ℕ) → p < 10000 → q < 10000 → r < 10000 → s < 10000 → k < 4 → at (p ∷ q ∷ r ∷ s ∷ []) k < 10000
few zero p q r s a b c d l = a
few (suc zero) p q r s a b c d l = b
few (suc (suc zero)) p q r s a b c d l = c
few (suc (suc (suc zero))) p q r s a b c d l = d
few (suc (suc (suc (suc k)))) p q r s a b c d l = absurd (omega arith)

pair : (k p q : ℕ) → p < 10000 → q < 10000 → k < 2 → at (p ∷ q ∷ []) k < 10000
pair zero p q a b l = a
pair (suc zero) p q a b l = b
pair (suc (suc k)) p q a b l = absurd (omega arith)

rounds_short : (k s : ℕ) → k < 10000 → s < 10000 → length (rounds_line k s) ≤ 24
unfolding rounds_line
rounds_short k s a b = simp length-append (omega (arith, spaced_short k a, spaced_short s b))

module _ (job : Job) (plan : List ℕ) (low : InRange (board_of job) (at plan)) where
  abbrev J : Netlist
  J = board_of job

  board_short : length (board_line job.bytes.now) ≤ 26
  board_short =
      let p = job.well_formed in
      let r = p.ranged in
      line_short board_word _ (λ k l. few k _ _ _ _ (omega (arith, p.f)) (omega (arith, p.c)) (omega (arith, p.m)) (omega (arith, p.n)) l)

  net_short : (i : ℕ) → i < J.n → length (net_line J (at plan) i) ≤ 24
  net_short i l =
      let p = job.well_formed in
      let r = p.ranged in
      let j = p.nets i (omega (arith, p.n)) in
      line_short net_word _ (λ k h. few k _ _ _ _ (omega (arith, p.n)) (omega (arith, j.first_below)) (omega (arith, j.second_below)) (omega (arith, low i l, p.c)) h)

  crossbar_short : (x : ℕ) → x < J.c → length (crossbar_line J (at plan) x) ≤ 19
  crossbar_short x l =
      let p = job.well_formed in
      let r = p.ranged in
      line_short crossbar_word _ (λ k h. pair k _ _ (omega (arith, p.c)) (omega (arith, total_at_most J (at plan) x, p.n)) h)

  pub plan_short : (k s : ℕ) → k ≤ 8192 → s ≤ 8192 → length (plan_lines job.bytes.now plan k s) ≤ listing_long
  unfolding plan_lines
  plan_short k s hk hs =
      let p = job.well_formed in
      let r = p.ranged in
      simp length-append
      (omega (
        arith,
        board_short,
        rounds_short k s (omega arith) (omega arith),
        each_short (net_line J (at plan)) 24 J.n net_short,
        each_short (crossbar_line J (at plan)) 19 J.c crossbar_short,
        p.n,
        p.c,
      ))

-- with room enough the listing stands at the front, whole, and the answer is its length
pub whole : (job plan₀ plan s₀ s room₀ room : List ℕ) (end : ℕ) (l : Listed job plan₀ plan s₀ s room₀ room end) → listing_long ≤ length room₀
    → (room ≡ onto (listing_of job plan l.answer) room₀) × (end ≡ length (listing_of job plan l.answer))
whole job plan₀ plan s₀ s room₀ room end l h =
    let e = l.listed ∙ puts_whole room₀ (listing_of job plan l.answer) (omega (arith, l.short)) in
    (ap (λ (t : Text). t.room) e, ap (λ (t : Text). t.end) e)
