-- `Fixed::abs` meets its contract: a size fits 32 bits, so that its low 32 bits are all of it. Assumes
-- nothing.
use Rattle.std.proofs.Common.{◌≡◌, ◌^◌, ◌%◌, pos, sym, ap, ◌∙◌, rules, arith, w32, SFits, to_z, to_z-of_z}
use Rattle.std.proofs.Common.{mod-eq_of_lt, nat_abs}
use lib.Signed.{nat_abs-le}
use Rattle.std.proofs.lemmas.Int.{ints}
use Rattle.fixed.specs.Integers.{signed, wrap32, low_bits}
use Rattle.fixed.specs.Fixed.{abs_f}
use Rattle.fixed.proofs.Fixed.abs.Goals as goal

pub returns : goal.returns
unfolding abs_f wrap32 signed low_bits
returns c =
    let f : SFits w32 c.args.self.bits = search rules in
    let e = rw (to_z-of_z f) at c.wrapping_abs.ensures in
    let small : nat_abs c.args.self.bits % 2 ^ 32 ≡ nat_abs c.args.self.bits =
    mod-eq_of_lt (omega (arith, nat_abs-le c.args.self.bits f.sfits)) in
    let said : c.wrapping_abs.result ≡ wrap32 (pos (nat_abs c.args.self.bits)) = e ∙ ap (to_z w32) (sym small) in
    grind (arith, ints)
