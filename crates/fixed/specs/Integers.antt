-- Whole numbers, as 01's "Numbers in 16.16" speaks of them: low bits, what 32 bits keep of a
-- number, and the rounding of a quotient.
use Rattle.std.specs.Prelude.{ℕ, suc, ◌+◌, ◌-◌, ◌*◌, ◌/◌, ◌%◌, ◌^◌, ℤ, pos, negsuc, ◌-ℤ◌, neg_ℤ}
use Rattle.std.specs.Int.{w32}
use Rattle.std.proofs.Common.{to_z}

-- the low k bits of z: what is left of z by 2^k, from 0 to 2^k − 1
unfoldable pub low_bits : ℕ → ℤ → ℕ
low_bits k (pos n) = n % 2 ^ k
low_bits k (negsuc n) = 2 ^ k - suc (n % 2 ^ k)

-- z with its low k bits cleared
abbrev pub clear_low : ℕ → ℤ → ℤ
clear_low k z = z -ℤ pos (low_bits k z)

-- the low 32 bits of z, from 0 to 2^32 − 1
abbrev pub bits_of : ℤ → ℕ
bits_of z = low_bits 32 z

-- 32 bits read as signed
unfoldable pub signed : ℕ → ℤ
signed n = to_z w32 n

-- the low 32 bits of z, as a signed number
unfoldable pub wrap32 : ℤ → ℤ
wrap32 z = signed (bits_of z)

-- z / d to the nearest whole number, halves away from zero
unfoldable pub nearest : ℤ → ℕ → ℤ
nearest (pos n) d = pos ((2 * n + d) / (2 * d))
nearest (negsuc n) d = neg_ℤ (pos ((2 * suc n + d) / (2 * d)))
