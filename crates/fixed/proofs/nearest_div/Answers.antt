-- `nearest_div` meets its contract: half the divisor away from zero, then toward zero, is the
-- nearest with halves away from zero. Assumes nothing.
use Rattle.std.proofs.Common.{◌≡◌, ◌+◌, ◌/◌, ◌^◌, ◌<◌, true, false, pos, nat_abs, lt_of_le_of_lt}
use Rattle.std.proofs.Common.{div-le_self, arith, to_z-of_z, w64, to_z, of_z}
use lib.Signed.{lt_z}
use mir.Facts.{to_z_pos}
use Rattle.fixed.proofs.Nearest.{abs-fits, neg-fits, down_is, up_is, quot-neg, nearest-below, nearest-above}
use Rattle.fixed.proofs.nearest_div.Goals as goal
use Rattle.fixed.proofs.nearest_div.Goals.{Start}

module _ (s : Start) where
  pp : to_z w64 (of_z w64 s.args.p) ≡ s.args.p
  pp = to_z-of_z s.ranges.p

  hh : to_z w64 (s.args.d / 2) ≡ pos (s.args.d / 2)
  hh = to_z_pos w64 (omega arith)

  dd : to_z w64 s.args.d ≡ pos s.args.d
  dd = to_z_pos w64 (omega arith)

  big : nat_abs s.args.p + s.args.d / 2 < 2 ^ 63
  big = omega arith

  less : (nat_abs s.args.p + s.args.d / 2) / s.args.d < 2 ^ 63
  less = lt_of_le_of_lt (div-le_self _ s.args.d) big

pub returns-then-p-lt0 : goal.returns-then-p-lt0
returns-then-p-lt0 c =
    let s = c.before in
    let p = s.args.p in
    let h = s.args.d / 2 in
    let below : lt_z p (pos 0) ≡ true = rw (pp s) at c.if-p-lt0.true in
    rw (
      pp s,
      hh s,
      down_is p h below,
      to_z-of_z (neg-fits _ (big s)),
      dd s,
      quot-neg,
      to_z-of_z (neg-fits _ (less s)),
    )
    (nearest-below p s.args.d below)

pub returns-else-p-lt0 : goal.returns-else-p-lt0
returns-else-p-lt0 c =
    let s = c.before in
    let p = s.args.p in
    let h = s.args.d / 2 in
    let above : lt_z p (pos 0) ≡ false = rw (pp s) at c.if-p-lt0.false in
    rw (
      pp s,
      hh s,
      up_is p h above,
      to_z-of_z (abs-fits (pos (nat_abs p + h)) (big s)),
      dd s,
      to_z-of_z (abs-fits (pos ((nat_abs p + h) / s.args.d)) (less s)),
    )
    (nearest-above p s.args.d above)
