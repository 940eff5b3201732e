-- `Fixed::twice` meets its contract: the number added to itself. Assumes nothing.
use Rattle.fixed.specs.Fixed.{twice_f, add_f}
use Rattle.fixed.proofs.Fixed.twice.Goals as goal

pub returns : goal.returns
unfolding twice_f add_f
returns c = c.add.ensures
