-- `clear_active` meets its contract: the byte of an active stem is at least its weight. Assumes nothing.
use Rattle.stems.specs.Mask.{of_bytes, cleared}
use Rattle.stems.proofs.Masks.{active-holds}
use Rattle.stems.proofs.mask.clear_active.Goals as goal

pub overflow_sub-bytes : goal.overflow_sub-bytes
overflow_sub-bytes c = rw c.msb_mask.ensures (active-holds (of_bytes _) _ c.requires.1)

pub returns : goal.returns
unfolding cleared
returns c = rw (c.msb_mask.ensures, c.requires.1)
