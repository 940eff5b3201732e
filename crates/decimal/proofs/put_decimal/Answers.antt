-- `put_decimal` puts a minus before the magnitude of a number below 0. Assumes nothing.
use Rattle.std.proofs.Common.{◌≡◌, true, false, ◌∷◌, ℤ, pos, negsuc, unsigned_abs, refl, true≢false, arith, rules}
use Rattle.std.proofs.Common.{ltb-true, to_z-of_z, w32, SFits}
use lib.Signed.{lt_z}
use Rattle.decimal.specs.Decimal.{size_text, decimal_text}
use Rattle.decimal.proofs.Putting.{in-room-both}
use Rattle.decimal.proofs.put_decimal.Goals as goal

-- ---- the text by the sign and the magnitude
text-below : (z : ℤ) → lt_z z (pos 0) ≡ true → decimal_text z ≡ 45 ∷ size_text (unsigned_abs z)
unfolding decimal_text
text-below (pos m) e = absurd (omega (arith, ltb-true m 0 e))
text-below (negsuc m) e = refl

text-above : (z : ℤ) → lt_z z (pos 0) ≡ false → decimal_text z ≡ size_text (unsigned_abs z)
unfolding decimal_text
text-above (pos m) e = refl
text-above (negsuc m) e = absurd (true≢false e)

pub returns-then-x-lt0 : goal.returns-then-x-lt0
returns-then-x-lt0 c =
    let fit : SFits w32 c.args.x.bits = search rules in
    let m : decimal_text c.args.x.bits ≡ 45 ∷ size_text c.unsigned_abs-size.result =
    rw (c.unsigned_abs-size.ensures.value, to_z-of_z fit)
    (text-below c.args.x.bits (rw (to_z-of_z fit) at c.if-x-lt0.true))
    in
    rw m (in-room-both c.put_byte-next.ensures c.put_size.ensures (rw m at c.requires))

pub returns : goal.returns
returns c =
    let fit : SFits w32 c.args.x.bits = search rules in
    let m : decimal_text c.args.x.bits ≡ size_text c.unsigned_abs-size.result =
    rw (c.unsigned_abs-size.ensures.value, to_z-of_z fit)
    (text-above c.args.x.bits (rw (to_z-of_z fit) at c.if-x-lt0.false))
    in
    rw m (c.put_size-2.ensures (rw m at c.requires))
