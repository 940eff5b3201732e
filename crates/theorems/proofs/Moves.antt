-- The two moves of a hint are the smallest up and down that put either edge on a whole pixel: on
-- the low 16 bits of the heights, which sums carry along. Assumes nothing.
use mathlib.Core.Path.{◌≡◌, refl, sym, ap, ◌∙◌}
use mathlib.Core.Bool.{Bool, true, false, cond}
use Prim.Native.Nat.{ℕ, zero, suc, min, ◌+◌, ◌-◌, ◌*◌, ◌/◌, ◌%◌, ◌^◌, ◌<◌}
use native.Mathlib.Nat.{mod-lt, mod-eq_of_lt, mul-add-mod_self_right}
use native.Mathlib.Omega.{arith}
use lib.Dec.{leb}
use lib.IntN.{ℤ, pos, negsuc, neg_ℤ, ◌+ℤ◌, ◌-ℤ◌}
use lib.Signed.{◌≤ℤ◌, ◌<ℤ◌}
use borrow.Author.Tests.{leb-true, leb-false}
use mir.Syntax.{w32}
use mir.Val.{SFits, to_z}
use Rattle.fixed.specs.declared.Fixed.{Fixed}
use Rattle.fixed.specs.Integers.{low_bits, signed, wrap32}
use Rattle.fixed.specs.Fixed.{from_bits, ZERO, add_f, sub_f, fract_f, min_f, max_f, same_f, at_most_f}
use Rattle.fixed.proofs.Ints.{ints, up, dn, one, of-add, of-sub, up_neg, dn-neg}
use Rattle.fixed.proofs.Bits.{low-lt, of-to_z, wrap-id}
use Rattle.fixed.proofs.Order.{heights, same-is, not_same}
use Rattle.adjust.specs.Adjust.{to_next, moves_of}
use Rattle.theorems.specs.Fitting.{Lands, lower, upper, SmallestUp, SmallestDown}

-- ---- the low bits of a sum
-- in naturals: −1 is 65535 by 65536
of_low : (z : ℤ) → low_bits 16 z ≡ (up z + dn z * 65535) % 65536
unfolding low_bits
of_low (pos n) = omega arith
of_low (negsuc n) =
    let r = n % 65536 in
    let below : r < 65536 = mod-lt n (omega arith) in
    let parts : 0 + suc n * 65535 ≡ (n - n / 65536) * 65536 + (65535 - r) = omega arith in
    let e : (0 + suc n * 65535) % 65536 ≡ 65535 - r = ap (λ (x : ℕ). x % 65536) parts ∙
    mul-add-mod_self_right (n - n / 65536) 65536 (65535 - r) ∙ mod-eq_of_lt (omega arith) in
    omega (arith, e)

low_sum : (a b : ℤ) → low_bits 16 (a +ℤ b) ≡ (low_bits 16 a + low_bits 16 b) % 65536
low_sum a b = omega (arith, of_low a, of_low b, of_low (a +ℤ b), of-add a b)

-- 32 bits keep them
low_signed : (n : ℕ) → n < 2 ^ 32 → low_bits 16 (to_z w32 n) ≡ n % 65536
low_signed n h = omega (arith, of_low (to_z w32 n), of-to_z n h, one (to_z w32 n))

low-low : (z : ℤ) → low_bits 32 z % 65536 ≡ low_bits 16 z
unfolding low_bits
low-low (pos n) = omega arith
low-low (negsuc n) = omega arith

low-wrap : (z : ℤ) → low_bits 16 (wrap32 z) ≡ low_bits 16 z
unfolding wrap32 signed
low-wrap z = low_signed (low_bits 32 z) (low-lt 32 z) ∙ low-low z

low-moved : (x by : Fixed) → low_bits 16 (add_f x by).bits ≡ (low_bits 16 x.bits + low_bits 16 by.bits) % 65536
unfolding add_f
low-moved x by = low-wrap (x.bits +ℤ by.bits) ∙ low_sum x.bits by.bits

-- ---- a height on a whole pixel has no low bits
on-pixel : (x : Fixed) → low_bits 16 x.bits ≡ 0 → fract_f x ≡ ZERO
unfolding fract_f
on-pixel x e = ap (λ (n : ℕ). from_bits (pos n)) e

pixel-low : (x : Fixed) → fract_f x ≡ ZERO → low_bits 16 x.bits ≡ 0
unfolding fract_f
pixel-low x e =
    let f : pos (low_bits 16 x.bits) ≡ pos 0 = ap (λ (y : Fixed). y.bits) e in
    omega ints

-- ---- the moves as numbers of bits
-- up to the next pixel
unfoldable to_pixel : ℕ → ℕ
to_pixel l = (65536 - l) % 65536

some : (k : ℕ) → (from_bits (pos k) ≡ ZERO → ⊥) → 0 < k
some zero f = absurd (f refl)
some (suc k) f = omega arith

next-bits : (l : ℕ) → l < 65536 → to_next (from_bits (pos l)) ≡ from_bits (pos (to_pixel l))
unfolding to_next sub_f to_pixel
next-bits l h = go (same_f (from_bits (pos l)) ZERO) refl
  where
    fits : SFits w32 (pos 65536 -ℤ pos l)
    fits = omega (ints, of-sub (pos 65536) (pos l), one (pos 65536 -ℤ pos l))

    go : (b : Bool) → same_f (from_bits (pos l)) ZERO ≡ b →
        cond b ZERO (from_bits (wrap32 (pos 65536 -ℤ pos l))) ≡ from_bits (pos ((65536 - l) % 65536))
    go true e =
        let z : from_bits (pos l) ≡ ZERO = same-is (from_bits (pos l)) ZERO e in
        omega heights
    go false e =
        let k = some l (not_same (from_bits (pos l)) ZERO e) in
        ap from_bits (wrap-id (pos 65536 -ℤ pos l) fits ∙ omega (ints, of-sub (pos 65536) (pos l)))

-- down to the pixel below
below-bits : (l : ℕ) → l < 65536 → sub_f ZERO (from_bits (pos l)) ≡ from_bits (neg_ℤ (pos l))
unfolding sub_f
below-bits l h =
    let fits : SFits w32 (pos 0 -ℤ pos l) = omega (ints, of-sub (pos 0) (pos l), one (pos 0 -ℤ pos l)) in
    ap from_bits (wrap-id (pos 0 -ℤ pos l) fits ∙ omega (ints, of-sub (pos 0) (pos l), up_neg (pos l), dn-neg (pos l)))

-- the lesser of two moves up, and of two moves down the one that goes less far
min-bits : (a b : ℕ) → min_f (from_bits (pos a)) (from_bits (pos b)) ≡ from_bits (pos (min a b))
unfolding min_f
min-bits a b = go (at_most_f (from_bits (pos a)) (from_bits (pos b))) refl
  where
    go : (t : Bool) → at_most_f (from_bits (pos a)) (from_bits (pos b)) ≡ t →
        cond t (from_bits (pos a)) (from_bits (pos b)) ≡ from_bits (pos (min a b))
    go true e = omega heights
    go false e = omega heights

max-bits : (a b : ℕ) → max_f (from_bits (neg_ℤ (pos a))) (from_bits (neg_ℤ (pos b))) ≡ from_bits (neg_ℤ (pos (min a b)))
unfolding max_f
max-bits a b = go (at_most_f (from_bits (neg_ℤ (pos a))) (from_bits (neg_ℤ (pos b)))) refl
  where
    down : (k : ℕ) → (up (neg_ℤ (pos k)) ≡ 0) × (dn (neg_ℤ (pos k)) ≡ k)
    down k = (up_neg (pos k), dn-neg (pos k))

    go : (t : Bool) → at_most_f (from_bits (neg_ℤ (pos a))) (from_bits (neg_ℤ (pos b))) ≡ t →
        cond t (from_bits (neg_ℤ (pos b))) (from_bits (neg_ℤ (pos a))) ≡ from_bits (neg_ℤ (pos (min a b)))
    go true e = omega (heights, down a, down b, down (min a b))
    go false e = omega (heights, down a, down b, down (min a b))

-- ---- which moves land
-- the low bits of a move up, and of one down
up-low : (z : ℤ) → pos 0 ≤ℤ z → up z < 65536 → low_bits 16 z ≡ up z
unfolding low_bits
up-low (pos n) p k = omega arith
up-low (negsuc n) p k = absurd (omega ints)

down-low : (z : ℤ) → z ≤ℤ pos 0 → dn z < 65536 → low_bits 16 z ≡ to_pixel (dn z)
unfolding low_bits to_pixel
down-low (pos n) p k = let e : n ≡ 0 = omega ints in omega arith
down-low (negsuc n) p k = omega arith

-- low bits and the way to a pixel are a whole pixel, and nothing less is
hit : (l : ℕ) → l < 65536 → (l + to_pixel l) % 65536 ≡ 0
unfolding to_pixel
hit l h = omega arith

no-rise : (l v : ℕ) → l < 65536 → v < to_pixel l → (l + v) % 65536 ≡ 0 → ⊥
unfolding to_pixel
no-rise l v h k e = omega arith

no-fall : (l v : ℕ) → l < 65536 → v < l → (l + to_pixel v) % 65536 ≡ 0 → ⊥
unfolding to_pixel
no-fall l v h k e = omega arith

-- a move lands exactly if its low bits make up a whole pixel with those of the height
lands-by : (x by : Fixed) (r : ℕ) → low_bits 16 by.bits ≡ r → (low_bits 16 x.bits + r) % 65536 ≡ 0 →
    fract_f (add_f x by) ≡ ZERO
lands-by x by r e h = on-pixel (add_f x by) (low-moved x by ∙ ap (λ (n : ℕ). (low_bits 16 x.bits + n) % 65536) e ∙ h)

landed-by : (x by : Fixed) (r : ℕ) → low_bits 16 by.bits ≡ r → fract_f (add_f x by) ≡ ZERO →
    (low_bits 16 x.bits + r) % 65536 ≡ 0
landed-by x by r e f =
    ap (λ (n : ℕ). (low_bits 16 x.bits + n) % 65536) (sym e) ∙ sym (low-moved x by) ∙ pixel-low (add_f x by) f

pixel-few : (l : ℕ) → to_pixel l < 65536
unfolding to_pixel
pixel-few l = mod-lt (65536 - l) (omega arith)

module _ (low high : Fixed) where
  -- the low bits of both heights
  abbrev a : ℕ
  a = low_bits 16 low.bits

  abbrev b : ℕ
  b = low_bits 16 high.bits

  a-few : a < 65536
  a-few = low-lt 16 low.bits

  b-few : b < 65536
  b-few = low-lt 16 high.bits

  -- ---- up
  abbrev upward : Fixed
  upward = from_bits (pos (min (to_pixel a) (to_pixel b)))

  upward-low : low_bits 16 upward.bits ≡ min (to_pixel a) (to_pixel b)
  upward-low = up-low upward.bits (omega ints) (omega (arith, pixel-few a))

  up-lands : (t : Bool) → leb (to_pixel a) (to_pixel b) ≡ t → Lands low high upward
  up-lands true e =
      let m : min (to_pixel a) (to_pixel b) ≡ to_pixel a = omega (arith, leb-true (to_pixel a) (to_pixel b) e) in
      lower (lands-by low upward (to_pixel a) (upward-low ∙ m) (hit a a-few))
  up-lands false e =
      let m : min (to_pixel a) (to_pixel b) ≡ to_pixel b = omega (arith, leb-false (to_pixel a) (to_pixel b) e) in
      upper (lands-by high upward (to_pixel b) (upward-low ∙ m) (hit b b-few))

  up_least : (other : Fixed) → ZERO.bits ≤ℤ other.bits → other.bits <ℤ upward.bits → Lands low high other → ⊥
  up_least other p q n = go n
    where
      short : up other.bits < min (to_pixel a) (to_pixel b)
      short = omega (ints, one other.bits)

      bits : low_bits 16 other.bits ≡ up other.bits
      bits = up-low other.bits p (omega (arith, short, pixel-few a))

      go : Lands low high other → ⊥
      go (lower e) =
          no-rise a (up other.bits) a-few (omega (arith, short)) (landed-by low other (up other.bits) bits e)
      go (upper e) =
          no-rise b (up other.bits) b-few (omega (arith, short)) (landed-by high other (up other.bits) bits e)

  -- ---- down
  abbrev downward : Fixed
  downward = from_bits (neg_ℤ (pos (min a b)))

  downward-dn : (up downward.bits ≡ 0) × (dn downward.bits ≡ min a b)
  downward-dn = (up_neg (pos (min a b)), dn-neg (pos (min a b)))

  downward-low : low_bits 16 downward.bits ≡ to_pixel (min a b)
  downward-low =
      down-low downward.bits (omega (ints, downward-dn)) (omega (arith, downward-dn.1, a-few)) ∙
      ap to_pixel downward-dn.1

  down-lands : (t : Bool) → leb a b ≡ t → Lands low high downward
  down-lands true e =
      let m : min a b ≡ a = omega (arith, leb-true a b e) in
      lower (lands-by low downward (to_pixel a) (downward-low ∙ ap to_pixel m) (hit a a-few))
  down-lands false e =
      let m : min a b ≡ b = omega (arith, leb-false a b e) in
      upper (lands-by high downward (to_pixel b) (downward-low ∙ ap to_pixel m) (hit b b-few))

  down-least : (other : Fixed) → other.bits ≤ℤ ZERO.bits → downward.bits <ℤ other.bits → Lands low high other → ⊥
  down-least other p q n = go n
    where
      short : dn other.bits < min a b
      short = omega (ints, one other.bits, downward-dn)

      bits : low_bits 16 other.bits ≡ to_pixel (dn other.bits)
      bits = down-low other.bits p (omega (arith, short, a-few))

      go : Lands low high other → ⊥
      go (lower e) =
          no-fall a (dn other.bits) a-few (omega (arith, short))
          (landed-by low other (to_pixel (dn other.bits)) bits e)
      go (upper e) =
          no-fall b (dn other.bits) b-few (omega (arith, short))
          (landed-by high other (to_pixel (dn other.bits)) bits e)

  -- ---- the moves that the definition has
  up_is : (moves_of low high).up ≡ upward
  unfolding moves_of fract_f
  up_is = rw (next-bits a a-few, next-bits b b-few) (min-bits (to_pixel a) (to_pixel b))

  down_is : (moves_of low high).down ≡ downward
  unfolding moves_of fract_f
  down_is = rw (below-bits a a-few, below-bits b b-few) (max-bits a b)

  pub smallest-up : SmallestUp low high (moves_of low high).up
  smallest-up =
      rw up_is (record { up = omega ints; lands = up-lands (leb (to_pixel a) (to_pixel b)) refl; least = up_least })

  pub smallest-down : SmallestDown low high (moves_of low high).down
  smallest-down =
      rw down_is (record { down = omega (ints, downward-dn); lands = down-lands (leb a b) refl; least = down-least })
