-- `put_digits` calls itself with a smaller number. Assumes nothing.
use Rattle.decimal.proofs.+put_digits.Given as goal

abbrev pub decreases-put_digits : goal.decreases-put_digits
decreases-put_digits l = l.n
