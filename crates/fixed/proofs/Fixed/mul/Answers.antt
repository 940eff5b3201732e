-- `Fixed::mul` meets its contract, by that of `ratio`. Assumes nothing.
use Rattle.std.proofs.Common.{ap, ◌∙◌, to_z-of_z, w32, SFits, rules}
use Rattle.fixed.specs.Fixed.{from_bits, mul_f}
use Rattle.fixed.proofs.Bits.{read}
use Rattle.fixed.proofs.Fixed.mul.Goals as goal

pub returns : goal.returns
unfolding mul_f
returns c =
    let fs : SFits w32 c.args.self.bits = search rules in
    let fb : SFits w32 c.args.b.bits = search rules in
    ap from_bits (read w32 c.ratio.result c.ratio.type_inv ∙ c.ratio.ensures ∙ simp (to_z-of_z fs, to_z-of_z fb))
