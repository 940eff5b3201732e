-- `sum_from` adds the length at a place, and none is left behind the last. Assumes nothing.
use Rattle.std.proofs.Common.{arith, ◌+◌}
use Rattle.labels.proofs.Walking.{total-at, total-none}
use Rattle.labels.proofs.counts.sum_from.Goals as goal

pub loop-i-preserved : goal.loop-i-preserved
loop-i-preserved c =
    let l = c.loop-i in
    let s = c.size_at-sum.ensures in
    record {
      whole = omega (arith, l.invariant.whole, s.0, total-at c.args.lengths.now l.i (omega arith));
      small = omega (arith, l.invariant.small, s.1.0);
    }

pub returns : goal.returns
returns c =
    omega (arith, c.loop-i.invariant.whole, total-none c.args.lengths.now c.loop-i.i (omega arith))

pub returns-2 : goal.returns-2
returns-2 c =
    let ls = c.args.lengths.now in
    let i = c.loop-i.i in
    omega (
      arith,
      c.loop-i.invariant.whole,
      c.size_at-sum.ensures.0,
      total-at ls i (omega arith),
      total-none ls (i + 2) (omega arith),
    )
