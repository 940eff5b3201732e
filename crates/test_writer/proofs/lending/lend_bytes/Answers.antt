-- Each turn lends one byte. Assumes nothing.
use Rattle.std.proofs.Common.{refl, arith}
use Rattle.test_writer.specs.Lending.{filled, lent_byte}
use Rattle.test_writer.proofs.Filling.{filled_more}
use Rattle.test_writer.proofs.lending.lend_bytes.Goals as goal

pub loop-place-init : goal.loop-place-init
unfolding filled
loop-place-init c = (refl, omega arith)

pub loop-place-preserved : goal.loop-place-preserved
loop-place-preserved c =
    let l = c.loop-place in (
      filled_more (lent_byte c.args.fill) l.out l.place-index l.byte l.invariant.1 (omega arith) l.invariant.0,
      omega arith,
    )
