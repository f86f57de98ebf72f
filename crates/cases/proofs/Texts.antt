-- Request 3: a text read, and where each broken text of the table breaks.
-- Assumes nothing.
use Rattle.words.specs.declared.Reason.TheVariants as reason
use mathlib.Core.Path.{◌≡◌, refl}
use mathlib.Core.Bool.{true, false}
use mathlib.Core.Logic.{inl, inr, dite}
use mathlib.Core.List.{List, [], ◌∷◌, ◌++◌}
use Prim.Native.Nat.{ℕ, ◌-◌, ◌≤◌, ◌<◌}
use native.Mathlib.Omega.{arith}
use lib.ListN.{length, get_or, get_or-eq_default, take, drop}
use borrow.Author.Tests.{ltb-true}
use native.Mathlib.Decide.{dec_lt}
use lib.Dec.{ltb, eqb}
use Rattle.laws.specs.Test.{every}
use Rattle.laws.proofs.Test.{every_true}
use Rattle.std.specs.Prelude.{Ok, Err}
use Rattle.words.specs.Number.{word}
use Rattle.words.specs.Verdict.{refuse, at_line, refuse_if, ◌then◌, first_refusal}
use Rattle.job.specs.Job.{nets_at}
use Rattle.job.specs.Check.{short_verdict, count_verdict, outside, ranges_verdict, head_verdict, length_verdict, net_verdict, nets_verdict, job_verdict}
use Rattle.job_writer.specs.Write.{job_of}
use Rattle.text.specs.Letters.{letters}
use Rattle.text.specs.Forms.{decimal_by, decimal}
use Rattle.form.specs.Form.{newline, board_line, number_then, net_line, board_text, count_text, nets_text, text_of}
use Rattle.form.specs.Breaks.{line_from, byte_from, place_behind, BreaksAs}
use Rattle.form.specs.Walk.{digit_fits, NumberAt, WordAt, CountAt, BoardAt}
use Rattle.form.proofs.NetLines.{first_breaks, second_breaks, nets_from_line, all_past}
use Rattle.form.proofs.Heads.{board_breaks, f_breaks, m_breaks, count_read}
use Rattle.form.proofs.Whole.{in_board, in_count, in_nets, past_nets, stops_short, stops_beyond}
use Rattle.text_writer.specs.WriteText.{text_in, write_text_verdict}
use Rattle.text_reader.specs.ReadText.{read_verdict, ReadText}
use Rattle.cases.specs.Table.{board}
use Rattle.cases.specs.Table.Row.{text}
use Rattle.cases.specs.Holds.{Holds}

-- ---- the pieces of these texts

-- the first line
first_line : (s : List ℕ) → WordAt board_line (board_line ++ s) 0 (Ok 8)
first_line s = record { past = omega arith; within = omega arith; bytes = refl }

-- a number breaks behind so many digits, at a byte that is no further digit and does not end the line
number_breaks : (t : List ℕ) (a end v : ℕ) → a ≤ end → end ≤ length t → v < 65536 → take (end - a) (drop a t) ≡ decimal v
    → digit_fits (eqb (end - a) 0) v (get_or (drop a t) (end - a) 0) ≡ false → (get_or (drop a t) (end - a) 0 ≡ newline → ⊥) → NumberAt newline t a (Err (record { 0 = end }))
number_breaks t a end v past within small came no_digit no_after =
    record { past = past; within = within; breaks = record { v = v; small = small; breaks = record { came = inr came; no_digit = λ _. no_digit; no_after = λ _ _ e. no_after e } } }

-- the board of the texts below, and their count of nets
two_fpgas : (s : List ℕ) → BoardAt (letters "board 3\n2\n1\n2\n" ++ s) (Ok (record { value = record { f = 2; c = 1; m = 2 }; end = 14 }))
unfolding board_text number_then decimal decimal_by
two_fpgas s = record { past = omega arith; within = omega arith; bytes = record { f_small = omega arith; c_small = omega arith; m_small = omega arith; is = refl } }

one_net : (s : List ℕ) → CountAt (letters "board 3\n2\n1\n2\nnets 1\n" ++ s) 14 (Ok (record { value = 1; end = 21 }))
unfolding count_text number_then decimal decimal_by
one_net s = record { past = omega arith; within = omega arith; bytes = record { small = omega arith; is = refl } }

-- ---- broken texts, in the order of the table

pub board_four : BreaksAs (letters "board 4\n") (refuse reason.TextBreaks (at_line 1 6))
unfolding place_behind line_from byte_from
board_four =
    stops_short _ _ (in_board _ _ (board_breaks _ (record { 0 = 6 })
    (record { past = omega arith; within = omega arith; breaks = record { short = omega arith; same = refl; other = λ _ e. absurd (omega (arith, e)) } })))

pub leading_zero : BreaksAs (letters "board 3\n01\n") (refuse reason.TextBreaks (at_line 2 1))
unfolding place_behind line_from byte_from decimal decimal_by digit_fits
leading_zero =
    stops_short _ _ (in_board _ _ (f_breaks _ 8 (first_line _) (record { 0 = 9 })
    (number_breaks _ 8 9 0 (omega arith) (omega arith) (omega arith) refl refl (λ e. absurd (omega (arith, e))))))

pub too_large : BreaksAs (letters "board 3\n65536\n") (refuse reason.TextBreaks (at_line 2 4))
unfolding place_behind line_from byte_from decimal decimal_by digit_fits
too_large =
    stops_short _ _ (in_board _ _ (f_breaks _ 8 (first_line _) (record { 0 = 12 })
    (number_breaks _ 8 12 6553 (omega arith) (omega arith) (omega arith) refl refl (λ e. absurd (omega (arith, e))))))

pub carriage_return : BreaksAs (letters "board 3\n2\n1\n2\r\n") (refuse reason.TextBreaks (at_line 4 1))
unfolding place_behind line_from byte_from decimal decimal_by digit_fits number_then
carriage_return =
    stops_short _ _ (in_board _ _ (m_breaks _ 8 (first_line _)
    (record { value = 2; end = 10 }) (record { past = omega arith; within = omega arith; bytes = record { small = omega arith; is = refl } })
    (record { value = 1; end = 12 }) (record { past = omega arith; within = omega arith; bytes = record { small = omega arith; is = refl } })
    (record { 0 = 13 })
    (number_breaks _ 12 13 2 (omega arith) (omega arith) (omega arith) refl refl (λ e. absurd (omega (arith, e))))))

pub too_many : BreaksAs (letters "board 3\n2\n1\n2\nnets 65536\n") (refuse reason.TextBreaks (at_line 5 9))
unfolding place_behind line_from byte_from decimal decimal_by digit_fits
too_many =
    stops_short _ _ (in_count _ _ (two_fpgas _) (record { 0 = 23 })
    (count_read _ 14 (omega arith) 19 (record { past = omega arith; within = omega arith; bytes = refl }) (Err (record { 0 = 23 }))
    (number_breaks _ 19 23 6553 (omega arith) (omega arith) (omega arith) refl refl (λ e. absurd (omega (arith, e))))))

pub no_line : BreaksAs (letters "board 3\n2\n1\n2\nnets 1\n") (refuse reason.TextBreaks (at_line 6 0))
unfolding place_behind line_from byte_from
no_line =
    stops_short _ _ (in_nets _ _ (two_fpgas _) _ (one_net _) (record { 0 = 21 })
    (record {
      past = omega arith;
      within = omega arith;
      breaks = first_breaks 0 _ 0 0 (omega arith) (omega arith) (record { came = inl (refl, refl); no_digit = λ h. absurd (omega arith); no_after = λ h _ _. absurd (omega arith) });
    }))

pub two_spaces : BreaksAs (letters "board 3\n2\n1\n2\nnets 1\n0  1\n") (refuse reason.TextBreaks (at_line 6 2))
unfolding place_behind line_from byte_from decimal decimal_by digit_fits number_then
two_spaces =
    stops_short _ _ (in_nets _ _ (two_fpgas _) _ (one_net _) (record { 0 = 23 })
    (record {
      past = omega arith;
      within = omega arith;
      breaks =
          second_breaks 0 _ 0 2 0 0 (omega arith) (omega arith) refl (omega arith) (omega arith)
          (record { came = inl (refl, refl); no_digit = λ _. refl; no_after = λ _ h _. absurd (omega arith) });
    }))

pub no_newline : BreaksAs (letters "board 3\n2\n1\n2\nnets 1\n0 1") (refuse reason.TextBreaks (at_line 6 3))
unfolding place_behind line_from byte_from decimal decimal_by digit_fits number_then
no_newline =
    stops_short _ _ (in_nets _ _ (two_fpgas _) _ (one_net _) (record { 0 = 24 })
    (record {
      past = omega arith;
      within = omega arith;
      breaks =
          second_breaks 0 _ 0 2 1 1 (omega arith) (omega arith) refl (omega arith) (omega arith)
          (record { came = inr refl; no_digit = λ h. absurd (omega arith); no_after = λ h _ _. absurd (omega arith) });
    }))

pub one_line_more : BreaksAs (letters "board 3\n2\n1\n2\nnets 1\n0 1\n\n") (refuse reason.TextGoesOn (at_line 7 0))
unfolding place_behind line_from byte_from decimal decimal_by number_then net_line
one_line_more =
    stops_beyond _ _ (past_nets _ _ (two_fpgas _) _ (one_net _) 25
    (record { past = omega arith; within = omega arith; stops = all_past 1 _ 4 (nets_from_line 0 _ 0 1 4 (omega arith) (omega arith) (omega arith) refl) })) (omega arith)

-- ---- a list of small numbers

all_small : (l : List ℕ) → every (λ i. ltb (get_or l i 0) 65536) (length l) ≡ true → (i : ℕ) → get_or l i 0 < 65536
all_small l e i =
    dite (dec_lt i (length l)) (λ h. ltb-true _ _ (every_true (λ j. ltb (get_or l j 0) 65536) (length l) e i h))
    (λ g. rw (get_or-eq_default l 0 {n = i} (omega arith)) (omega arith))

-- ---- the text of case 2

four_ends : List ℕ
four_ends = 0 ∷ 1 ∷ 1 ∷ 2 ∷ 2 ∷ 0 ∷ 0 ∷ 1 ∷ []

pub case_two : Holds (text (board 3 2 2 ((0, 1) ∷ (1, 2) ∷ (2, 0) ∷ (0, 1) ∷ [])) (letters "board 3\n3\n2\n2\nnets 4\n0 1\n1 2\n2 0\n0 1\n"))
unfolding every four_ends word refuse_if ◌then◌ first_refusal nets_at short_verdict count_verdict outside ranges_verdict head_verdict length_verdict net_verdict nets_verdict job_verdict
    job_of decimal decimal_by number_then net_line board_text count_text nets_text text_of text_in write_text_verdict read_verdict
case_two = (
  refl,
  refl,
  ReadText.whole 3 2 2 4 four_ends
      (record { f_small = omega arith; c_small = omega arith; m_small = omega arith; n_small = omega arith; nets = record { long = refl; small = all_small four_ends refl } })
      refl refl refl,
)
