-- How many digits are still allowed.
use Rattle.lxtr_text.proofs.line.Line.+numeral.Given as goal

abbrev pub decreases-numeral : goal.decreases-numeral
decreases-numeral l = l.digits
