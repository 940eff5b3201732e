-- Laws of the arithmetic, for the parts above. Assumes nothing.
use Rattle.std.proofs.Common.{◌≡◌, ℕ, suc, ◌+◌, ◌-◌, ◌*◌, ◌/◌, ◌%◌, ◌^◌, ℤ, pos, negsuc, ◌+ℤ◌, ◌-ℤ◌, ◌≤ℤ◌, ◌<ℤ◌, ap}
use Rattle.std.proofs.Common.{◌∙◌, mod-lt, arith, pow_pos, w32, SFits}
use native.Mathlib.Nat.{mul-mod_left}
use lib.Arith.{digits_mod}
use lib.Pow.{ones_lt, split}
use Rattle.fixed.specs.declared.Fixed.{Fixed}
use Rattle.fixed.specs.Integers.{low_bits, clear_low, wrap32}
use Rattle.fixed.specs.Fixed.{from_bits, HALF, add_f, sub_f, round_f, trunc_f}
use Rattle.fixed.proofs.Ints.{ints, one, fit-up, of-add, of-sub, add-fits, sub-fits}
use Rattle.fixed.proofs.Bits.{wrap-id, wrap-fits, low-lt, of-wrap}

-- ---- a sum or a difference that fits is exact
pub add-exact : (a b : Fixed) → SFits w32 (a.bits +ℤ b.bits) → add_f a b ≡ from_bits (a.bits +ℤ b.bits)
unfolding add_f
add-exact a b f = ap from_bits (wrap-id _ f)

pub sub-exact : (a b : Fixed) → SFits w32 (a.bits -ℤ b.bits) → sub_f a b ≡ from_bits (a.bits -ℤ b.bits)
unfolding sub_f
sub-exact a b f = ap from_bits (wrap-id _ f)

-- ---- subtracting undoes adding, also where the sum wraps
pub sub-add : (a b : Fixed) → SFits w32 a.bits → SFits w32 b.bits → sub_f (add_f a b) b ≡ a
unfolding add_f sub_f
sub-add a b f g =
    let s = a.bits +ℤ b.bits in
    let d = wrap32 s -ℤ b.bits in
    ap from_bits (omega (
      ints,
      of-add a.bits b.bits,
      of-wrap s (add-fits f g),
      of-sub (wrap32 s) b.bits,
      of-wrap d (sub-fits (wrap-fits s) g),
      one a.bits,
      fit-up f,
    ))

-- ---- clearing the low k bits lowers by less than 2^k, and again by nothing
pub clear-under : (k : ℕ) (z : ℤ) → clear_low k z ≤ℤ z
clear-under k z = omega (ints, of-sub z (pos (low_bits k z)))

pub clear-near : (k : ℕ) (z : ℤ) → z <ℤ (clear_low k z +ℤ pos (2 ^ k))
clear-near k z = omega (ints, of-sub z (pos (low_bits k z)), of-add (clear_low k z) (pos (2 ^ k)), low-lt k z)

pub clear-low : (k : ℕ) (z : ℤ) → low_bits k (clear_low k z) ≡ 0
unfolding low_bits
clear-low k (pos n) = ap (low_bits k) whole ∙ mul-mod_left (n / 2 ^ k) (2 ^ k)
  where
    whole : clear_low k (pos n) ≡ pos (n / 2 ^ k * 2 ^ k)
    whole = omega (ints, of-sub (pos n) (pos (n % 2 ^ k)), split n k)
clear-low k (negsuc n) = ap (low_bits k) whole ∙ rw (digits_mod (n / 2 ^ k) (ones_lt k)) (omega (arith, pow_pos k))
  where
    whole : clear_low k (negsuc n) ≡ negsuc (n / 2 ^ k * 2 ^ k + (2 ^ k - 1))
    whole = omega (ints, of-sub (negsuc n) (pos (2 ^ k - suc (n % 2 ^ k))), split n k, mod-lt n (pow_pos k))

pub clear-again : (k : ℕ) (z : ℤ) → clear_low k (clear_low k z) ≡ clear_low k z
clear-again k z = rw (clear-low k z) (omega (ints, of-sub (clear_low k z) (pos 0)))

-- ---- truncation
pub trunc-under : (a : Fixed) → (trunc_f a).bits ≤ℤ a.bits
unfolding trunc_f
trunc-under a = clear-under 10 a.bits

pub trunc-near : (a : Fixed) → a.bits <ℤ ((trunc_f a).bits +ℤ pos 1024)
unfolding trunc_f
trunc-near a = clear-near 10 a.bits

pub trunc-again : (a : Fixed) → trunc_f (trunc_f a) ≡ trunc_f a
unfolding trunc_f
trunc-again a = ap from_bits (clear-again 10 a.bits)

-- ---- rounding: to a whole pixel, by at most half of one, unless adding the half wraps
pub round_whole : (a : Fixed) → low_bits 16 (round_f a).bits ≡ 0
unfolding round_f
round_whole a = clear-low 16 (add_f a HALF).bits

module _ (a : Fixed) (f : SFits w32 (a.bits +ℤ pos 32768)) where
  pub round_up : (round_f a).bits ≤ℤ (a.bits +ℤ pos 32768)
  unfolding round_f add_f
  round_up = rw (wrap-id _ f) (clear-under 16 (a.bits +ℤ pos 32768))

  pub round-down : a.bits <ℤ ((round_f a).bits +ℤ pos 32768)
  unfolding round_f add_f
  round-down =
      let s = a.bits +ℤ pos 32768 in
      rw (wrap-id s f) (omega (
        ints,
        clear-near 16 s,
        of-add a.bits (pos 32768),
        of-add (clear_low 16 s) (pos 32768),
        of-add (clear_low 16 s) (pos 65536),
      ))
