-- `Fixed::fract` meets its contract: the mask keeps the low 16 bits. Assumes nothing.
use Rattle.std.proofs.Common.{refl, ap, ◌∙◌, arith, w32, SFits, to_z, rules}
use mir.Facts.{to_z_pos}
use Rattle.fixed.specs.Fixed.{from_bits, fract_f}
use Rattle.fixed.proofs.Bits.{masked, low-lt}
use Rattle.fixed.proofs.Fixed.fract.Goals as goal

pub returns : goal.returns
unfolding fract_f
returns c =
    let f : SFits w32 c.args.self.bits = search rules in
    ap from_bits (ap (to_z w32) (masked 16 16 refl _ f) ∙ to_z_pos w32 (omega (arith, low-lt 16 c.args.self.bits)))
