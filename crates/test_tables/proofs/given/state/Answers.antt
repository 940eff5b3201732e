-- A scale of at least one bit is above 0. Assumes nothing.
use Rattle.std.proofs.Common.{◌≡◌, Bool, true, false, cond, pos, ◌<ℤ◌, refl}
use Rattle.fixed.specs.declared.Fixed.{Fixed}
use Rattle.fixed.specs.Fixed.{from_bits, at_most_f, max_f}
use Rattle.fixed.proofs.Order.{heights}
use Rattle.test_tables.specs.Given.{state_in}
use Rattle.test_tables.proofs.given.state.Goals as goal

-- the greater of a number and one bit
above : (a : Fixed) → pos 0 <ℤ (max_f a (from_bits (pos 1))).bits
unfolding max_f
above a = go (at_most_f a (from_bits (pos 1))) refl
  where
    go : (t : Bool) → at_most_f a (from_bits (pos 1)) ≡ t → pos 0 <ℤ (cond t (from_bits (pos 1)) a).bits
    go true e = omega heights
    go false e = omega heights

pub new-requires : goal.new-requires
new-requires c = rw c.max.ensures (above c.fixed.result)

pub returns : goal.returns
unfolding state_in
returns c = cc
