-- Sizes, products and rounded quotients, as the code comes to them: by the sign that it tests.
-- Assumes nothing.
use Rattle.std.proofs.Common.{◌≡◌, ℕ, zero, suc, ◌+◌, ◌*◌, ◌/◌, ◌^◌, ◌<◌, true, false, ltb, ℤ, pos, negsuc, ◌+ℤ◌}
use Rattle.std.proofs.Common.{◌-ℤ◌, ◌*ℤ◌, neg_ℤ, nat_abs, refl, ap, ◌∙◌, true≢false, arith, w32}
use Rattle.std.proofs.Common.{w64, SFits, of_z, ltb-true}
use native.Mathlib.Nat.{div-div-eq-div-mul, zero-div}
use lib.Signed.{lt_z, quot_z}
use Rattle.fixed.specs.Integers.{nearest}
use Rattle.fixed.specs.Fixed.{MAX, over_zero, quotient_of}
use Rattle.fixed.proofs.Ints.{ints, of-sub, up_neg, dn-neg}

no-natural-below : (n : ℕ) → ltb n 0 ≡ true → ⊥
no-natural-below n e = omega (arith, ltb-true n 0 e)

-- ---- sizes
abs_neg : (n : ℕ) → nat_abs (neg_ℤ (pos n)) ≡ n
abs_neg zero = refl
abs_neg (suc n) = refl

pub abs-fits : (z : ℤ) → nat_abs z < 2 ^ 63 → SFits w64 z
abs-fits (pos n) h = omega arith
abs-fits (negsuc n) h = omega arith

pub neg-fits : (m : ℕ) → m < 2 ^ 63 → SFits w64 (neg_ℤ (pos m))
neg-fits m h = abs-fits (neg_ℤ (pos m)) (rw (abs_neg m) h)

-- ---- rounding to the nearest
-- (n + d / 2) / d rounds n / d to the nearest, the half up
halves : (n d : ℕ) → (n + d / 2) / d ≡ (2 * n + d) / (2 * d)
halves n d = ap (λ (x : ℕ). x / d) e ∙ div-div-eq-div-mul (2 * n + d) 2 d
  where
    e : n + d / 2 ≡ (2 * n + d) / 2
    e = omega arith

-- a number below 0 less half the divisor, and one from 0 up with it added
pub down_is : (p : ℤ) (h : ℕ) → lt_z p (pos 0) ≡ true → p -ℤ pos h ≡ neg_ℤ (pos (nat_abs p + h))
down_is (pos n) h e = absurd (no-natural-below n e)
down_is (negsuc n) h e = omega (ints, of-sub (negsuc n) (pos h), up_neg (pos (suc n + h)), dn-neg (pos (suc n + h)))

pub up_is : (p : ℤ) (h : ℕ) → lt_z p (pos 0) ≡ false → p +ℤ pos h ≡ pos (nat_abs p + h)
up_is (pos n) h e = refl
up_is (negsuc n) h e = absurd (true≢false e)

pub quot-neg : (m d : ℕ) → quot_z (neg_ℤ (pos m)) (pos d) ≡ neg_ℤ (pos (m / d))
quot-neg zero d = rw (zero-div d)
quot-neg (suc m) d = refl

pub nearest-below : (p : ℤ) (d : ℕ) → lt_z p (pos 0) ≡ true → neg_ℤ (pos ((nat_abs p + d / 2) / d)) ≡ nearest p d
unfolding nearest
nearest-below (pos n) d e = absurd (no-natural-below n e)
nearest-below (negsuc n) d e = ap (λ (x : ℕ). neg_ℤ (pos x)) (halves (suc n) d)

pub nearest-above : (p : ℤ) (d : ℕ) → lt_z p (pos 0) ≡ false → pos ((nat_abs p + d / 2) / d) ≡ nearest p d
unfolding nearest
nearest-above (pos n) d e = ap pos (halves n d)
nearest-above (negsuc n) d e = absurd (true≢false e)

-- ---- the quotient
pub over_zero_lem : (a b : ℤ) → SFits w32 b → of_z w32 b ≡ 0 → over_zero a ≡ quotient_of a b
unfolding quotient_of
over_zero_lem a (pos zero) h e = refl
over_zero_lem a (pos (suc n)) h e = absurd (omega arith)
over_zero_lem a (negsuc n) h e = absurd (omega (arith, h.sfits))

pub over-zero-below : (a : ℤ) → lt_z a (pos 0) ≡ true → neg_ℤ MAX.bits ≡ over_zero a
unfolding over_zero
over-zero-below (pos n) e = absurd (no-natural-below n e)
over-zero-below (negsuc n) e = refl

pub over-zero-above : (a : ℤ) → lt_z a (pos 0) ≡ false → MAX.bits ≡ over_zero a
unfolding over_zero
over-zero-above (pos n) e = refl
over-zero-above (negsuc n) e = absurd (true≢false e)

pub over_below : (a b : ℤ) → lt_z b (pos 0) ≡ true → nearest (a *ℤ negsuc 65535) (nat_abs b) ≡ quotient_of a b
unfolding quotient_of
over_below a (pos n) e = absurd (no-natural-below n e)
over_below a (negsuc n) e = refl

pub over-above : (a b : ℤ) → (of_z w32 b ≡ 0 → ⊥) → lt_z b (pos 0) ≡ false →
    nearest (a *ℤ pos 65536) (nat_abs b) ≡ quotient_of a b
unfolding quotient_of
over-above a (pos zero) h e = absurd (h refl)
over-above a (pos (suc n)) h e = refl
over-above a (negsuc n) h e = absurd (true≢false e)

-- ---- half
pub half-fits : (z : ℤ) → SFits w32 z → SFits w32 (quot_z z (pos 2))
half-fits (pos n) h = omega arith
half-fits (negsuc n) h = omega (ints, up_neg (pos (suc n / 2)), dn-neg (pos (suc n / 2)))
