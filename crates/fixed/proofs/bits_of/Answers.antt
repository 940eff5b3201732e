-- `bits_of` meets its contract: the machine's bits of a number are all its low bits. Assumes nothing.
use Rattle.std.proofs.Common.{arith, to_z-of_z}
use Rattle.fixed.proofs.Bits.{whole-low}
use Rattle.fixed.proofs.bits_of.Goals as goal

pub returns : goal.returns
returns c = grind (arith, to_z-of_z c.ranges.x, whole-low c.args.x c.ranges.x)
