-- `sum_from` sums up every other length: the sum so far and that of the lengths from here on are the
-- whole; each is below 2^32, and there are at most 128. Assumes nothing.
use Rattle.std.proofs.Common.{◌≡◌, ◌+◌, ◌*◌, ◌≤◌, drop}
use Rattle.labels.specs.Glyphs.{every_other, total}
use Rattle.labels.proofs.counts.sum_from.Given as goal

abbrev pub invariant-loop-i : goal.invariant-loop-i
invariant-loop-i l =
    record {
      whole : total (every_other (drop l.fn.first l.lengths)) ≡ l.sum + total (every_other (drop l.i l.lengths));
      small : l.sum ≤ 4294967296 * l.i;
    }
