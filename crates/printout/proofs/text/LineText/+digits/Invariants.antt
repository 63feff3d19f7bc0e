-- `digits`: each call has a tenth of the number. Assumes nothing.
use Rattle.printout.proofs.text.LineText.+digits.Given as goal

abbrev pub decreases-digits : goal.decreases-digits
decreases-digits l = l.n
