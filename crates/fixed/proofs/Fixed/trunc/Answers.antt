-- `Fixed::trunc` meets its contract: the mask clears the low 10 bits. Assumes nothing.
use Rattle.std.proofs.Common.{refl, ap, w32, SFits, rules}
use Rattle.fixed.specs.Fixed.{from_bits, trunc_f}
use Rattle.fixed.proofs.Bits.{cleared}
use Rattle.fixed.proofs.Fixed.trunc.Goals as goal

pub returns : goal.returns
unfolding trunc_f
returns c =
    let f : SFits w32 c.args.self.bits = search rules in
    ap from_bits (cleared 21 10 refl _ f)
