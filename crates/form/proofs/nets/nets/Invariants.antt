-- `form::nets::nets` meets its contract.
use Rattle.std.proofs.Common.{◌-◌}
use Rattle.form.specs.Form.{IsNets}
use Rattle.form.proofs.Stopping.{Goes}
use Rattle.form.proofs.nets.nets.Given as goal

abbrev pub invariant-loop-i : goal.invariant-loop-i
invariant-loop-i l = Goes (IsNets l.n) l.text l.at l.end (IsNets (l.n - l._i))
