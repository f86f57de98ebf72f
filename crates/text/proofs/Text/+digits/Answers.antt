-- The cycle of calls {digits} meets its contracts.
use native.Mathlib.Omega.{arith}
use Rattle.text.proofs.Gaining.{gains_digit, gains_digits}
use Rattle.text.proofs.Text.+digits.Goals as goal

pub returns-then-n-lt10 : goal.returns-then-n-lt10
returns-then-n-lt10 t c = gains_digit _ _ _ (omega arith) c.byte.ensures

pub returns-else-n-lt10 : goal.returns-else-n-lt10
returns-else-n-lt10 t c = gains_digits _ _ _ _ (omega arith) c.digits.ensures c.byte-else-n-lt10.ensures
