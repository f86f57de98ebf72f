-- Spare of an FPGA and headroom of two; their refusals stand in crate `refusals`.
use Rattle.std.specs.Prelude.{List, ℕ, ◌-◌, min, Result}
use Rattle.words.specs.declared.Net.{Net}
use Rattle.words.specs.declared.Refusal.{Refusal}
use Rattle.words.specs.Verdict.{answer}
use Rattle.job.specs.Job.{job_in}
use Rattle.board.specs.Netlist.{Netlist}
use Rattle.board.specs.Board.{degree, limit}
use Rattle.refusals.specs.Asked.{spare_verdict, headroom_verdict}

-- Spare of an FPGA: m times c minus its degree.
unfoldable pub spare_of : Netlist → ℕ → ℕ
spare_of J v = limit J v - degree J v

-- Headroom of two FPGAs: the smaller spare.
unfoldable pub headroom_of : Netlist → ℕ → ℕ → ℕ
headroom_of J v w = min (spare_of J v) (spare_of J w)

-- room for so many nets, unless refused
abbrev pub spare_room : List ℕ → ℕ → Result Net Refusal
spare_room job v = answer (spare_verdict job v) (record { 0 = spare_of (job_in job) v })

abbrev pub headroom_room : List ℕ → ℕ → ℕ → Result Net Refusal
headroom_room job v w = answer (headroom_verdict job v w) (record { 0 = headroom_of (job_in job) v w })
