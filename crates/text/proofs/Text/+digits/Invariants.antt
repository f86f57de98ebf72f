-- The cycle of calls {digits}: n falls, since it is divided by ten.
use Rattle.text.proofs.Text.+digits.Given as goal

abbrev pub decreases-digits : goal.decreases-digits
decreases-digits l = l.n
