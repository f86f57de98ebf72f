-- The cycle of calls {digits_long} meets its contracts.
use native.Mathlib.Omega.{arith}
use Rattle.text.proofs.Decimals.{decimal_short, one_long, more_long}
use Rattle.text.proofs.+digits_long.Goals as goal

pub returns-then-n-lt10 : goal.returns-then-n-lt10
returns-then-n-lt10 t c = omega (arith, one_long c.args.n (omega arith))

pub returns : goal.returns
returns t c = omega (arith, more_long c.args.n (omega arith), decimal_short 19 c.args.n (omega arith))
