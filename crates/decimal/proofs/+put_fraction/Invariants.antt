-- `put_fraction` calls itself for one digit less. Assumes nothing.
use Rattle.decimal.proofs.+put_fraction.Given as goal

abbrev pub decreases-put_fraction : goal.decreases-put_fraction
decreases-put_fraction l = l.left
