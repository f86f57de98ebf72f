-- The text reader: a text to its job, in lent room.
use Rattle.std.specs.Prelude.{◌≡◌, List, ℕ, length, drop, Result}
use Rattle.words.specs.declared.Refusal.{Refusal}
use Rattle.words.specs.Verdict.{Verdict, too_short, ◌then◌, answer}
use Rattle.words.specs.Lent.{room_after}
use Rattle.job.specs.Job.{head_long}
use Rattle.job.specs.Check.{ranges_verdict, nets_verdict}
use Rattle.job_writer.specs.Write.{first_of, second_of, written_length, job_of}
use Rattle.form.specs.declared.Formed.{Formed}
use Rattle.form.specs.Form.{nets_text, text_of, EndsOf, InForm}
use Rattle.form.specs.Breaks.{BreaksAs}

-- refusals 3 to 7; 9, 27 and 10 by net, at their places in the job; then 11 for too little room
unfoldable pub read_verdict : ℕ → ℕ → ℕ → ℕ → List ℕ → ℕ → Verdict
read_verdict f c m n ends room_length =
    ranges_verdict f c m n then
    nets_verdict f head_long (first_of ends) (second_of ends) n then
    too_short room_length (written_length n)

-- ---- the walks over the lines of a text of the form: what holds of its list of FPGA numbers, whichever that is

abbrev pub OfEnds : ℕ → List ℕ → (List ℕ → Type 0) → Type 0
OfEnds n lines P = (ends : List ℕ) → EndsOf n ends → lines ≡ nets_text ends → P ends

-- the same of a text of the form, by its head
abbrev pub OfLines : Formed → (List ℕ → Type 0) → Type 0
OfLines formed = OfEnds formed.head.n (drop formed.head.start formed.text.now)

-- ---- the call

-- Reading t with a room that held `room` answers r, and the room then holds `new`: t breaks the form, and the room stays; or t is the text of
-- these numbers, and what the check says of them decides.
pub data ReadText (t room new : List ℕ) (r : Result ℕ Refusal) : Type 0 where
  broken : (v : Verdict) → BreaksAs t v → r ≡ answer v 0 → new ≡ room → ReadText t room new r
  whole : (f c m n : ℕ) (ends : List ℕ) → InForm f c m n ends → t ≡ text_of f c m n ends
      → r ≡ answer (read_verdict f c m n ends (length room)) (written_length n)
      → new ≡ room_after (read_verdict f c m n ends (length room)) (job_of f c m n ends) room → ReadText t room new r
