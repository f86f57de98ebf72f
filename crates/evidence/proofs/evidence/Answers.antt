-- `evidence::evidence` meets its contract.
use Rattle.std.proofs.Common.{rules}
use native.Mathlib.Omega.{arith}
use Rattle.evidence.proofs.Inside.{found_inside, in_file_fits}
use Rattle.evidence.proofs.evidence.Goals as goal

pub overflow_add-end : goal.overflow_add-end
overflow_add-end c = let fits = in_file_fits _ c.args.job.now c.args.sheet.now _ 18446744073709551616 (found_inside _ _ _ c.find_fault-fault.ensures) (omega arith) (omega arith) in search rules

pub slice_bounds-result-end : goal.slice_bounds-result-end
slice_bounds-result-end c = let inside = rw c.in-Job.is at (found_inside _ _ _ c.find_fault-fault.ensures) in search rules

pub slice_bounds-result-end-in-Sheet : goal.slice_bounds-result-end-in-Sheet
slice_bounds-result-end-in-Sheet c = let inside = rw c.in-Sheet.is at (found_inside _ _ _ c.find_fault-fault.ensures) in search rules
