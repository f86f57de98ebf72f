-- Refusals 11 to 13: too little lent memory, a degree above the limit, and a crossbar number that cannot be used (23 in a sheet).
use Rattle.words.specs.declared.Reason.{Reason}
use Rattle.words.specs.declared.Reason.TheVariants as reason
use Rattle.std.specs.Prelude.{not, ℕ, ltb}
use Rattle.words.specs.Verdict.{Verdict, refuse_if, too_short, ◌then◌, first_refusal, at_net, at_fpga}
use Rattle.board.specs.Netlist.{Netlist}
use Rattle.board.specs.Board.{degree, limit, usable}
use Rattle.scratch.specs.Scratch.{scratch_long}

-- 11: the room for an assignment of n nets, then the scratch, by their lengths
unfoldable pub room_verdict : ℕ → ℕ → ℕ → Verdict
room_verdict n plan_length scratch_length =
    too_short plan_length n then
    too_short scratch_length scratch_long

-- 12, with the lowest FPGA whose degree is above its limit
unfoldable pub degree_verdict : Netlist → Verdict
degree_verdict J = first_refusal (λ v. refuse_if (ltb (limit J v) (degree J v)) reason.Degree (at_fpga v)) J.f

-- refused for this reason, with the lowest net whose crossbar cannot be used
unfoldable pub range_verdict : Reason → Netlist → (ℕ → ℕ) → Verdict
range_verdict k J a = first_refusal (λ i. refuse_if (not (usable J (a i))) k (at_net i)) J.n
