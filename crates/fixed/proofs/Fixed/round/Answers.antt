-- `Fixed::round` meets its contract: the mask clears the low 16 bits of the sum. Assumes nothing.
use Rattle.std.proofs.Common.{refl, ap, ◌∙◌, w32, SFits, rules}
use Rattle.fixed.specs.Fixed.{from_bits, round_f}
use Rattle.fixed.proofs.Bits.{cleared}
use Rattle.fixed.proofs.Fixed.round.Goals as goal

pub returns : goal.returns
unfolding round_f
returns c =
    let f : SFits w32 c.add-raised.result.bits = search rules in
    ap from_bits (cleared 15 16 refl _ f ∙ rw c.add-raised.ensures)
