-- `lines::verdict_text` meets its contract.
use native.Mathlib.Omega.{arith}
use lib.ListN.{length-append}
use Rattle.text.proofs.Gaining.{gains_both}
use Rattle.text.proofs.Lengths.{spaced_any}
use Rattle.lines.proofs.verdict_text.Goals as goal

pub returns : goal.returns
returns c =
    let k = c.number_of.ensures in
    let p = c.p_of.ensures in
    let q = c.q_of.ensures in
    rw (← k, ← p, ← q) record {
      gains = gains_both _ _ _ _ _ c.number.ensures (gains_both _ _ _ _ _ c.number-2.ensures c.number-3.ensures);
      short = simp length-append (omega (arith, spaced_any c.number_of.result (omega arith), spaced_any c.p_of.result (omega arith), spaced_any c.q_of.result (omega arith)));
    }
