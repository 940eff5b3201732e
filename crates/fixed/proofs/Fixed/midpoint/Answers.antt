-- `Fixed::midpoint` meets its contract, by those of its calls. Assumes nothing.
use Rattle.fixed.specs.Fixed.{midpoint_f}
use Rattle.fixed.proofs.Fixed.midpoint.Goals as goal

pub returns : goal.returns
unfolding midpoint_f
returns c = rw (c.half.ensures, c.sub.ensures) at c.add.ensures
