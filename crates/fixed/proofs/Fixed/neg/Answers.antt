-- `Fixed::neg` meets its contract: 0 less the number. Assumes nothing.
use Rattle.std.proofs.Common.{neg_ℤ, ap, ◌∙◌}
use lib.IntN.{+ℤ_idl}
use Rattle.fixed.specs.Fixed.{wrap_f, neg_f, sub_f}
use Rattle.fixed.proofs.Fixed.neg.Goals as goal

pub returns : goal.returns
unfolding neg_f sub_f
returns c = c.sub.ensures ∙ ap wrap_f (+ℤ_idl (neg_ℤ c.args.self.bits))
