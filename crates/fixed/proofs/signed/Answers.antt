-- `signed` meets its contract, by that of its cast. Assumes nothing.
use Rattle.std.proofs.Common.{arith, w32}
use Rattle.fixed.specs.Integers.{signed}
use Rattle.fixed.proofs.Bits.{read}
use Rattle.fixed.proofs.signed.Goals as goal

pub returns : goal.returns
unfolding signed
returns c = grind (arith, read w32 c.cast_signed.result c.cast_signed.type_inv)
