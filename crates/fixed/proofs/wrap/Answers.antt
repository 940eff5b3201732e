-- `wrap` meets its contract: the mask leaves the low 32 bits, which are read as signed. Assumes
-- nothing.
use Rattle.std.proofs.Common.{refl, ap, ◌∙◌, arith, w32, w64, to_z, ◌≡◌, SFits, of_z, ℤ, pos}
use lib.Bits.{bit_and}
use mir.Facts.{to_z_pos}
use Rattle.fixed.specs.Integers.{low_bits, wrap32}
use Rattle.fixed.proofs.Bits.{masked, low-lt, read}
use Rattle.fixed.proofs.wrap.Goals as goal

-- what the mask leaves
low : (z : ℤ) → SFits w64 z → to_z w64 (bit_and (of_z w64 z) 4294967295) ≡ pos (low_bits 32 z)
low z h = ap (to_z w64) (masked 32 32 refl z h) ∙ to_z_pos w64 (omega (arith, low-lt 32 z))

pub returns : goal.returns
unfolding wrap32
returns c = read w32 c.signed.result c.signed.type_inv ∙ c.signed.ensures ∙ rw (low _ c.ranges.x)
