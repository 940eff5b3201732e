-- `count_short` counts one piece more, and at the end all. Assumes nothing.
use Rattle.std.proofs.Common.{arith}
use Rattle.words.specs.Words.{raw_at}
use Rattle.readback.proofs.Shortened.{walk_start, walk-next, walk_end}
use Rattle.readback.proofs.copies.count_short.Goals as goal

pub loop-at-init : goal.loop-at-init
loop-at-init c = walk_start (raw_at c.args.script.now) c.args.first c.args.n c.requires.whole

pub loop-at-preserved : goal.loop-at-preserved
loop-at-preserved c =
    walk-next (raw_at c.args.script.now) c.args.first c.args.n c.loop-at.invariant (omega arith)
    c.natural-kind.ensures.0 c.given_operands.ensures.0 c.operands.ensures.0

pub returns : goal.returns
returns c = walk_end (raw_at c.args.script.now) c.args.first c.args.n c.loop-at.invariant (omega arith)
