-- `first_set` meets its contract: the leading zeros of a byte are the bits before the first that is set.
-- Assumes nothing.
use Rattle.stems.proofs.FirstStem.{first-leading}
use Rattle.stems.proofs.mask.first_set.Goals as goal

pub returns : goal.returns
returns c = first-leading c.args.byte c.ranges.byte.fits
