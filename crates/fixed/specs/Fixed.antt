-- Numbers in 16.16 (01, "Numbers in 16.16"), in its order. The code's `add` is `add_f` here, and so
-- for each: an exact whole number, rounded as 01 says, of which `wrap_f` keeps the low 32 bits.
use Rattle.std.specs.Prelude.{zero, suc, ◌-◌, ◌^◌, Bool, cond, ◌&&◌, ℤ, pos, negsuc, ◌+ℤ◌, ◌-ℤ◌, ◌*ℤ◌, neg_ℤ, int_div}
use Rattle.std.specs.Prelude.{int_le, int_lt, unsigned_abs}
use Rattle.fixed.specs.declared.Fixed.{Fixed}
use Rattle.fixed.specs.Integers.{low_bits, clear_low, wrap32, nearest}

-- the number of these bits
abbrev pub from_bits : ℤ → Fixed
from_bits z = record { bits = z }

-- the whole number z, so that 1.0 is 65536
abbrev pub whole : ℤ → Fixed
whole z = from_bits (z *ℤ pos 65536)

-- 0, 1.0, 0.5, and the largest number, 0x7FFFFFFF
abbrev pub ZERO : Fixed
ZERO = whole (pos 0)

abbrev pub ONE : Fixed
ONE = whole (pos 1)

abbrev pub HALF : Fixed
HALF = from_bits (pos 32768)

abbrev pub MAX : Fixed
MAX = from_bits (pos (2 ^ 31 - 1))

-- the number that the low 32 bits of an exact one are
abbrev pub wrap_f : ℤ → Fixed
wrap_f z = from_bits (wrap32 z)

-- the sum, the difference, the negation, the absolute value and the double
unfoldable pub add_f : Fixed → Fixed → Fixed
add_f a b = wrap_f (a.bits +ℤ b.bits)

unfoldable pub sub_f : Fixed → Fixed → Fixed
sub_f a b = wrap_f (a.bits -ℤ b.bits)

unfoldable pub neg_f : Fixed → Fixed
neg_f a = wrap_f (neg_ℤ a.bits)

unfoldable pub abs_f : Fixed → Fixed
abs_f a = wrap_f (pos (unsigned_abs a.bits))

unfoldable pub twice_f : Fixed → Fixed
twice_f a = wrap_f (a.bits +ℤ a.bits)

-- the product: a·b/65536
abbrev pub product_of : ℤ → ℤ → ℤ
product_of a b = nearest (a *ℤ b) 65536

unfoldable pub mul_f : Fixed → Fixed → Fixed
mul_f a b = wrap_f (product_of a.bits b.bits)

-- a quotient by 0: the largest number, negated for a below 0
unfoldable pub over_zero : ℤ → ℤ
over_zero (pos a) = MAX.bits
over_zero (negsuc a) = neg_ℤ MAX.bits

-- the quotient: a·65536/b, which for b below 0 is a·(−65536)/|b|
unfoldable pub quotient_of : ℤ → ℤ → ℤ
quotient_of a (pos zero) = over_zero a
quotient_of a (pos (suc b)) = nearest (a *ℤ pos 65536) (suc b)
quotient_of a (negsuc b) = nearest (a *ℤ neg_ℤ (pos 65536)) (suc b)

unfoldable pub div_f : Fixed → Fixed → Fixed
div_f a b = wrap_f (quotient_of a.bits b.bits)

-- a·b/c, for c above 0
unfoldable pub mul_div_f : Fixed → Fixed → Fixed → Fixed
mul_div_f a b c = wrap_f (nearest (a.bits *ℤ b.bits) (unsigned_abs c.bits))

-- rounding: the sum with 0.5, with its low 16 bits cleared
unfoldable pub round_f : Fixed → Fixed
round_f a = from_bits (clear_low 16 (add_f a HALF).bits)

-- the fraction: the low 16 bits
unfoldable pub fract_f : Fixed → Fixed
fract_f a = from_bits (pos (low_bits 16 a.bits))

-- half the bits, toward zero
unfoldable pub half_f : Fixed → Fixed
half_f a = from_bits (int_div a.bits (pos 2))

-- the midpoint: half the way from a to b
unfoldable pub midpoint_f : Fixed → Fixed → Fixed
midpoint_f a b = add_f a (half_f (sub_f b a))

-- the output: the low 10 bits cleared
unfoldable pub trunc_f : Fixed → Fixed
trunc_f a = from_bits (clear_low 10 a.bits)

-- the order, as tests: that of the bits
abbrev pub less_f : Fixed → Fixed → Bool
less_f a b = int_lt a.bits b.bits

abbrev pub at_most_f : Fixed → Fixed → Bool
at_most_f a b = int_le a.bits b.bits

abbrev pub same_f : Fixed → Fixed → Bool
same_f a b = at_most_f a b && at_most_f b a

-- the lesser and the greater
unfoldable pub min_f : Fixed → Fixed → Fixed
min_f a b = cond (at_most_f a b) a b

unfoldable pub max_f : Fixed → Fixed → Fixed
max_f a b = cond (at_most_f a b) b a
