-- `Fixed::div` meets its contract: a divisor of 0 by the dividend's sign, any other, by its own
-- sign, with that of `ratio`. Assumes nothing.
use Rattle.std.proofs.Common.{◌≡◌, ◌∙◌, ap, to_z-of_z, w32, SFits, of_z, rules}
use Rattle.fixed.specs.Integers.{low_bits, signed, wrap32}
use Rattle.fixed.specs.Fixed.{from_bits, wrap_f, neg_f, div_f}
use Rattle.fixed.proofs.Bits.{read}
use Rattle.fixed.proofs.Nearest.{over_zero_lem, over-zero-below, over-zero-above, over_below, over-above}
use Rattle.fixed.proofs.Fixed.div.Goals as goal

pub returns-then-self-lt0 : goal.returns-then-self-lt0
unfolding div_f neg_f
returns-then-self-lt0 c =
    let fs : SFits w32 c.args.self.bits = search rules in
    let fb : SFits w32 c.args.b.bits = search rules in
    let zero : of_z w32 c.args.b.bits ≡ 0 = search rules in
    c.neg.ensures ∙ ap wrap_f
    (over-zero-below _ (rw (to_z-of_z fs) at c.if-self-lt0.true) ∙ over_zero_lem _ _ fb zero)

pub returns-then-b-eq0 : goal.returns-then-b-eq0
unfolding div_f wrap32 signed low_bits
returns-then-b-eq0 c =
    let fs : SFits w32 c.args.self.bits = search rules in
    let fb : SFits w32 c.args.b.bits = search rules in
    let zero : of_z w32 c.args.b.bits ≡ 0 = search rules in
    ap wrap_f (over-zero-above _ (rw (to_z-of_z fs) at c.if-self-lt0.false) ∙ over_zero_lem _ _ fb zero)

pub returns-then-b-lt0 : goal.returns-then-b-lt0
unfolding div_f
returns-then-b-lt0 c =
    let fs : SFits w32 c.args.self.bits = search rules in
    let fb : SFits w32 c.args.b.bits = search rules in
    let below = rw (to_z-of_z fb) at c.if-b-lt0.true in
    ap from_bits (read w32 c.ratio.result c.ratio.type_inv ∙ c.ratio.ensures ∙
    simp (to_z-of_z fs, c.size.ensures, to_z-of_z fb) (ap wrap32 (over_below _ _ below)))

pub returns : goal.returns
unfolding div_f
returns c =
    let fs : SFits w32 c.args.self.bits = search rules in
    let fb : SFits w32 c.args.b.bits = search rules in
    let nonzero : of_z w32 c.args.b.bits ≡ 0 → ⊥ = search rules in
    let above = rw (to_z-of_z fb) at c.if-b-lt0.false in
    ap from_bits (read w32 c.ratio-2.result c.ratio-2.type_inv ∙ c.ratio-2.ensures ∙
    simp (to_z-of_z fs, c.size-2.ensures, to_z-of_z fb) (ap wrap32 (over-above _ _ nonzero above)))
