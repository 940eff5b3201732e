-- The machine's bits of a signed number, for every width w: its low k bits and their clearing are
-- `low_bits k` and `clear_low k`, and a number that 32 bits hold does not wrap. Assumes nothing.
use Rattle.std.proofs.Common.{◌≡◌, ℕ, suc, ◌+◌, ◌-◌, ◌*◌, ◌/◌, ◌%◌, ◌^◌, ◌<◌, Bool, true, false, ltb, ℤ, pos, negsuc}
use Rattle.std.proofs.Common.{◌+ℤ◌, ◌-ℤ◌, sym, refl, ap, ◌∙◌, mul-le-mul_right, mod-lt, mod-eq_of_lt, suc-mul, add-mul}
use Rattle.std.proofs.Common.{arith, pow_pos, pow-add, shr_lt, to_z-of_z, w32, w64, SFits, to_z, of_z, ltb-false}
use Rattle.std.proofs.Common.{ltb-true}
use native.Mathlib.Nat.{mod-le, add-mod}
use native.Mathlib.Nat.{add-mul-mod_self_right}
use lib.Arith.{digits_mod}
use lib.Bits.{bit_and, and_mask, and_high}
use lib.Pow.{split, recompose}
use mir.Syntax.{Width}
use mir.Val.{bits, hbits, sel}
use lib.Signed.{mag}
use mir.ValLaws.{half_full, bits-suc}
use Rattle.std.specs.Int.{int_wrap}
use mir.Facts.{to_z_pos, to_z-neg, Fits-of_z, sfits_widen, sfits_to_z, Fits-of_lt}
use Rattle.fixed.specs.Integers.{low_bits, clear_low, bits_of, signed, wrap32}
use Rattle.fixed.proofs.Ints.{ints, up, dn, of-add, of-sub, sub-fits}

-- 2^(j + k) − (n + 1) has the low k bits 2^k − (n % 2^k + 1)
turned : (j k n : ℕ) → n < 2 ^ (j + k) → (2 ^ (j + k) - suc n) % 2 ^ k ≡ 2 ^ k - suc (n % 2 ^ k)
turned j k n h = ap (λ (x : ℕ). x % 2 ^ k) parts ∙ digits_mod (2 ^ j - suc (n / 2 ^ k)) (omega (arith, low))
  where
    low : n % 2 ^ k < 2 ^ k
    low = mod-lt n (pow_pos k)

    rows : 2 ^ j ≡ suc (n / 2 ^ k) + (2 ^ j - suc (n / 2 ^ k))
    rows = omega (arith, shr_lt j k h)

    whole : 2 ^ (j + k) ≡ suc (n / 2 ^ k) * 2 ^ k + (2 ^ j - suc (n / 2 ^ k)) * 2 ^ k
    whole = pow-add 2 j k ∙ ap (λ (x : ℕ). x * 2 ^ k) rows ∙ add-mul (suc (n / 2 ^ k)) _ _

    parts : 2 ^ (j + k) - suc n ≡ (2 ^ j - suc (n / 2 ^ k)) * 2 ^ k + (2 ^ k - suc (n % 2 ^ k))
    parts = omega (arith, whole, suc-mul (n / 2 ^ k) (2 ^ k), split n k, low)

module _ {w : Width} (j k : ℕ) (e : j + k ≡ bits w) where
  below : (z : ℤ) → SFits w z → of_z w z < 2 ^ (j + k)
  below z h = rw e (Fits-of_z h).fits

  -- the low k bits of a number, off the bits that the machine keeps of it
  pub low_of : (z : ℤ) → SFits w z → of_z w z % 2 ^ k ≡ low_bits k z
  unfolding low_bits
  low_of (pos n) h = refl
  low_of (negsuc n) h = rw (sym e) (turned j k n (rw e (half_full w h.sfits)))

  -- by the machine's mask
  pub masked : (z : ℤ) → SFits w z → bit_and (of_z w z) (2 ^ k - 1) ≡ low_bits k z
  masked z h = and_mask (of_z w z) k ∙ low_of z h

  -- and the bits above them
  above : (z : ℤ) → SFits w z → bit_and (of_z w z) (2 ^ bits w - 2 ^ k) ≡ of_z w z - low_bits k z
  above z h = rw (sym e, and_high (of_z w z) j k, sym (low_of z h)) (omega (arith, recompose j k (below z h)))

-- a number that the width holds is all its low bits
pub whole-low : {w : Width} (z : ℤ) → SFits w z → low_bits (bits w) z ≡ of_z w z
whole-low {w} z h = sym (low_of 0 (bits w) (omega arith) z h) ∙ mod-eq_of_lt (Fits-of_z h).fits

-- n and the low bits of −(n + 1) stay below a higher power
room : (i k n : ℕ) → n < 2 ^ (i + k) → n + (2 ^ k - suc (n % 2 ^ k)) < 2 ^ (i + k)
room i k n h =
    omega (
      arith,
      mul-le-mul_right (2 ^ k) (shr_lt i k h),
      suc-mul (n / 2 ^ k) (2 ^ k),
      pow-add 2 i k,
      split n k,
      mod-lt n (pow_pos k),
    )

module _ {w : Width} (i k : ℕ) (e : i + k ≡ hbits w) where
  -- the mask that keeps all but the low k bits
  pub cleared : (z : ℤ) → SFits w z → to_z w (bit_and (of_z w z) (2 ^ bits w - 2 ^ k)) ≡ clear_low k z
  unfolding low_bits
  cleared (pos n) h =
      let place : suc i + k ≡ bits w = omega (arith, bits-suc w, e) in
      ap (to_z w) (above (suc i) k place (pos n) h) ∙ to_z_pos w {n = n - n % 2 ^ k} (omega (arith, h.sfits)) ∙
      omega (ints, of-sub (pos n) (pos (n % 2 ^ k)), mod-le n (2 ^ k))
  cleared (negsuc n) h =
      let place : suc i + k ≡ bits w = omega (arith, bits-suc w, e) in
      let r = 2 ^ k - suc (n % 2 ^ k) in
      let under : n + r < 2 ^ hbits w = rw e at (room i k n (rw (sym e) at h.sfits)) in
      let less : 2 ^ bits w - suc n - r ≡ 2 ^ bits w - suc (n + r) = omega arith in
      ap (to_z w) (above (suc i) k place (negsuc n) h ∙ less) ∙ to_z-neg w (n + r) under ∙
      omega (ints, of-sub (negsuc n) (pos r))

-- ---- what 32 bits hold
-- a number that fits does not wrap
pub wrap-id : (z : ℤ) → SFits w32 z → wrap32 z ≡ z
unfolding wrap32 signed
wrap-id z h = ap (to_z w32) (whole-low z h) ∙ to_z-of_z h

pub low-lt : (k : ℕ) (z : ℤ) → low_bits k z < 2 ^ k
unfolding low_bits
low-lt k (pos n) = mod-lt n (pow_pos k)
low-lt k (negsuc n) = omega (arith, pow_pos k)

-- what the machine's wrapping sums leave of a number is its low 32 bits, read as signed
pub wrap-is : (z : ℤ) → int_wrap w32 z ≡ wrap32 z
unfolding int_wrap wrap32 signed low_bits
wrap-is (pos n) = refl
wrap-is (negsuc n) = ap (to_z w32) (omega arith)

-- what is wrapped fits
pub wrap-fits : (z : ℤ) → SFits w32 (wrap32 z)
unfolding wrap32 signed
wrap-fits z = sfits_to_z (Fits-of_lt (low-lt 32 z))

-- the low 32 bits n, read as signed, in naturals
pub of-to_z : (n : ℕ) → n < 2 ^ 32 → up (to_z w32 n) + 2 ^ 31 ≡ (n + 2 ^ 31) % 2 ^ 32 + dn (to_z w32 n)
of-to_z n h = go (ltb n (2 ^ 31)) refl
  where
    go : (t : Bool) → ltb n (2 ^ 31) ≡ t →
        up (sel t (pos n) (negsuc (2 ^ 32 - suc n))) + 2 ^ 31 ≡
        (n + 2 ^ 31) % 2 ^ 32 + dn (sel t (pos n) (negsuc (2 ^ 32 - suc n)))
    go true e = omega (arith, ltb-true n (2 ^ 31) e)
    go false e = omega (arith, ltb-false n (2 ^ 31) e)

-- the low 32 bits of a number of 64, in naturals
of_low : (z : ℤ) → SFits w64 z → low_bits 32 z ≡ (up z + 2 ^ 64 - dn z) % 2 ^ 32
unfolding low_bits
of_low (pos n) h = omega arith
of_low (negsuc n) h = omega arith

-- a wrapped number in naturals, for `omega`
pub of-wrap : (z : ℤ) → SFits w64 z →
    up (wrap32 z) + 2 ^ 31 ≡ (up z + (2 ^ 64 + 2 ^ 31) - dn z) % 2 ^ 32 + dn (wrap32 z)
unfolding wrap32 signed
of-wrap z h = omega (ints, of_low z h, of-to_z (low_bits 32 z) (low-lt 32 z))

-- an i32 fits an i64
pub wide : {z : ℤ} → SFits w32 z → SFits w64 z
wide h = sfits_widen tt h

-- what a call hands back of a signed number: the machine's reading of its bits is the number
pub read : (w : Width) (z : ℤ) → mag z < 2 ^ hbits w → to_z w (of_z w z) ≡ z
read w z h = to_z-of_z (record { sfits = h })

-- ---- sums of low bits
-- the low bits of two numbers, summed, have the low bits of the sum
pub low-add : (a b : ℤ) → SFits w64 a → SFits w64 b → SFits w64 (a +ℤ b) →
    (bits_of a + bits_of b) % 2 ^ 32 ≡ bits_of (a +ℤ b)
low-add a b f g h =
    let x = up a + 2 ^ 64 - dn a in
    let y = up b + 2 ^ 64 - dn b in
    let s = up (a +ℤ b) + 2 ^ 64 - dn (a +ℤ b) in
    let e : x + y ≡ s + 2 ^ 32 * 2 ^ 32 = omega (ints, of-add a b) in
    rw (of_low a f, of_low b g, of_low (a +ℤ b) h)
    (sym (add-mod x y (2 ^ 32)) ∙ ap (λ (n : ℕ). n % 2 ^ 32) e ∙ add-mul-mod_self_right s (2 ^ 32) (2 ^ 32))

cancel : (x y k : ℕ) → x < 2 ^ 32 → y < 2 ^ 32 → (x + k) % 2 ^ 32 ≡ (y + k) % 2 ^ 32 → x ≡ y
cancel x y k h l e = omega arith

-- what is added to the low bits of b to give those of a are the low bits of the difference
pub low-sub : (a b : ℤ) (r : ℕ) → SFits w32 a → SFits w32 b → r < 2 ^ 32 → (r + bits_of b) % 2 ^ 32 ≡ bits_of a →
    r ≡ bits_of (a -ℤ b)
low-sub a b r f g h e =
    let d = a -ℤ b in
    let back : d +ℤ b ≡ a = omega (ints, of-sub a b, of-add d b) in
    cancel r (bits_of d) (bits_of b) h (low-lt 32 d)
    (e ∙ sym (low-add d b (sub-fits f g) (wide g) (rw back (wide f)) ∙ ap bits_of back))
