-- Each turn lends one word. Assumes nothing.
use Rattle.std.proofs.Common.{refl, ap, ◌∙◌, arith, to_z-of_z, w32, SFits, rules}
use Rattle.fixed.specs.Integers.{signed}
use Rattle.test_writer.specs.Lending.{filled, lent_word}
use Rattle.test_writer.proofs.Filling.{filled_more}
use Rattle.test_writer.proofs.lending.lend_words.Goals as goal

pub loop-place-init : goal.loop-place-init
unfolding filled
loop-place-init c = (refl, omega arith)

pub loop-place-preserved : goal.loop-place-preserved
loop-place-preserved c =
    let l = c.loop-place in
    let w : SFits w32 c.signed.result = search rules in (
      filled_more (lent_word c.args.fill) l.out l.place-index _
          (to_z-of_z w ∙ c.signed.ensures ∙ ap signed l.invariant.1) (omega arith) l.invariant.0,
      omega arith,
    )
