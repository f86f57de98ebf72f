-- A verdict is done, or a refusal: its reason, with that one's number, and its place. Of several faults the first in a fixed order is given.
use Rattle.std.specs.Prelude.{Bool, true, false, ℕ, zero, suc, ltb, Result, Ok, Err}
use Rattle.words.specs.declared.Place.{Place}
use Rattle.words.specs.declared.Place.TheVariants.{Byte, Net, End, Fpga, Crossbar, Load, Length, Line, Nowhere}
use Rattle.words.specs.declared.Reason.{Reason}
use Rattle.words.specs.declared.Reason.TheVariants as reason
use Rattle.words.specs.declared.Refusal.{Refusal}

-- ---- the reasons

-- the number of each in document 01
abbrev pub number_for : Reason → ℕ
number_for reason.JobShort = 1
number_for reason.BoardCount = 2
number_for reason.FpgaCount = 3
number_for reason.CrossbarCount = 4
number_for reason.WireCount = 5
number_for reason.LoneWire = 6
number_for reason.NetCount = 7
number_for reason.JobLong = 8
number_for reason.FirstEnd = 9
number_for reason.SameEnd = 10
number_for reason.RoomShort = 11
number_for reason.Degree = 12
number_for reason.Start = 13
number_for reason.SheetLength = 21
number_for reason.SheetHead = 22
number_for reason.SheetCrossbar = 23
number_for reason.Load = 24
number_for reason.Spread = 25
number_for reason.WrittenTotal = 26
number_for reason.SecondEnd = 27
number_for reason.TextBreaks = 31
number_for reason.TextGoesOn = 32

-- ---- the places

abbrev pub at_byte : ℕ → Place
at_byte i = Byte i

abbrev pub at_net : ℕ → Place
at_net i = Net (record { 0 = i })

-- one of the net's two numbers, at this byte of the job
abbrev pub at_end : ℕ → ℕ → Place
at_end i at = End (record { 0 = i }) at

abbrev pub at_fpga : ℕ → Place
at_fpga v = Fpga (record { 0 = v })

abbrev pub at_crossbar : ℕ → Place
at_crossbar x = Crossbar (record { 0 = x })

abbrev pub at_load : ℕ → ℕ → Place
at_load v x = Load (record { 0 = v }) (record { 0 = x })

abbrev pub of_length : ℕ → Place
of_length n = Length n

-- a byte of a text, by its line from 1 and its place in that line from 0
abbrev pub at_line : ℕ → ℕ → Place
at_line line byte = Line line byte

abbrev pub nowhere : Place
nowhere = Nowhere

-- the two numbers p and q of a place; what is not used is 0
abbrev pub place_p : Place → ℕ
place_p (Byte i) = i
place_p (Net i) = i.0
place_p (End i at) = i.0
place_p (Fpga v) = v.0
place_p (Crossbar x) = x.0
place_p (Load v x) = v.0
place_p (Length n) = n
place_p (Line line byte) = line
place_p Nowhere = 0

abbrev pub place_q : Place → ℕ
place_q (Byte i) = 0
place_q (Net i) = 0
place_q (End i at) = at
place_q (Fpga v) = 0
place_q (Crossbar x) = 0
place_q (Load v x) = x.0
place_q (Length n) = 0
place_q (Line line byte) = byte
place_q Nowhere = 0

-- ---- the verdicts

abbrev pub Verdict : Type 0
Verdict = Result Unit Refusal

abbrev pub refuse : Reason → Place → Verdict
refuse k place = Err (record { reason = k; place = place })

-- what a verdict is in numbers: the refusal's number, or 0; then p and q
abbrev pub number_of : Verdict → ℕ
number_of (Ok _) = 0
number_of (Err r) = number_for r.reason

abbrev pub p_of : Verdict → ℕ
p_of (Ok _) = 0
p_of (Err r) = place_p r.place

abbrev pub q_of : Verdict → ℕ
q_of (Ok _) = 0
q_of (Err r) = place_q r.place

-- refused where the test holds
unfoldable pub refuse_if : Bool → Reason → Place → Verdict
refuse_if true k place = refuse k place
refuse_if false k place = Ok tt

-- 11: what is lent is shorter than it must be
abbrev pub too_short : ℕ → ℕ → Verdict
too_short long least = refuse_if (ltb long least) reason.RoomShort nowhere

-- the first verdict, unless it is done: then the second
infixr 5 ◌then◌
unfoldable pub ◌then◌ : Verdict → Verdict → Verdict
◌then◌ (Ok _) v = v
◌then◌ (Err r) v = Err r

-- the first refusal among g 0, g 1, .., g (n - 1)
unfoldable pub first_refusal : (ℕ → Verdict) → ℕ → Verdict
first_refusal g zero = Ok tt
first_refusal g (suc n) = first_refusal g n then g n

-- ---- an answer

-- x, unless the verdict is a refusal
abbrev pub answer : {A : Type 0} → Verdict → A → Result A Refusal
answer (Ok _) x = Ok x
answer (Err r) x = Err r

-- what an answer says of refusal
abbrev pub verdict_of : {A : Type 0} → Result A Refusal → Verdict
verdict_of (Ok x) = Ok tt
verdict_of (Err r) = Err r
