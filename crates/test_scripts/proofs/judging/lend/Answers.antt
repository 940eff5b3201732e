-- Each turn lends one word. Assumes nothing.
use Rattle.std.proofs.Common.{◌≡◌, ℕ, List, length, ℤ, pos, neg_ℤ, set, refl, ap, ◌∙◌, add-one, arith}
use Rattle.std.proofs.Common.{length-set, to_z-of_z, w32, SFits, rules}
use Rattle.fixed.specs.declared.Fixed.{Fixed}
use Rattle.fixed.specs.Fixed.{from_bits, add_f}
use Rattle.test_scripts.specs.Judging.{lent_word, lent}
use Rattle.test_scripts.proofs.judging.lend.Goals as goal

pub loop-i-init : goal.loop-i-init
unfolding lent lent_word
loop-i-init c = (refl, (refl, refl))

pub loop-i-preserved : goal.loop-i-preserved
unfolding lent lent_word
loop-i-preserved c =
    let l = c.loop-i in
    let a = c.args in
    let f : SFits w32 l.word.bits = search rules in (
      rw (to_z-of_z f, add-one) (ap (λ (o : List ℤ). set o l.i l.word.bits) l.invariant.0 ∙
          ap (λ (w : Fixed). set (lent a.fill l.i a.out.now) l.i w.bits) l.invariant.1.0),
      (
        rw add-one (c.add-word.ensures ∙ ap (λ (w : Fixed). add_f w (from_bits (neg_ℤ (pos 1640531535))))
            l.invariant.1.0),
        simp length-set l.invariant.1.1,
      ),
    )

pub returns : goal.returns
returns c =
    let n : c.loop-i.i ≡ length c.args.out.now = omega arith in
    c.loop-i.invariant.0 ∙ ap (λ (k : ℕ). lent c.args.fill k c.args.out.now) n
