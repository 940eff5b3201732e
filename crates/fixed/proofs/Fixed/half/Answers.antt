-- `Fixed::half` meets its contract: half of a number fits. Assumes nothing.
use Rattle.std.proofs.Common.{to_z-of_z, w32, SFits, rules}
use Rattle.fixed.specs.Fixed.{half_f}
use Rattle.fixed.proofs.Nearest.{half-fits}
use Rattle.fixed.proofs.Fixed.half.Goals as goal

pub returns : goal.returns
unfolding half_f
returns c =
    let f : SFits w32 c.args.self.bits = search rules in
    simp (to_z-of_z f, to_z-of_z (half-fits _ f))
