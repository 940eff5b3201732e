-- `Fixed::sub` meets its contract: the machine's wrapping difference is the exact one's low 32 bits. Assumes
-- nothing.
use Rattle.std.proofs.Common.{ap, ◌∙◌, w32, rules}
use Rattle.std.proofs.lemmas.Int.{wrapping_sub_is}
use Rattle.fixed.specs.Fixed.{from_bits, sub_f}
use Rattle.fixed.proofs.Bits.{wrap-is}
use Rattle.fixed.proofs.Fixed.sub.Goals as goal

pub returns : goal.returns
unfolding sub_f
returns c =
    let e = wrapping_sub_is w32 c.args.self.bits c.args.b.bits (search rules) (search rules) in
    ap from_bits (e ∙ wrap-is _)
