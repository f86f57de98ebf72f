-- The cycle of calls {digits_long}: n falls, since it is divided by ten.
use Rattle.text.proofs.+digits_long.Given as goal

abbrev pub decreases-digits_long : goal.decreases-digits_long
decreases-digits_long l = l.n
