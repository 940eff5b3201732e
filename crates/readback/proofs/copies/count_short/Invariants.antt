-- `count_short` counts the words of shortened pieces: no piece that is left is cut off, and the count
-- with theirs is that of all. Assumes nothing.
use Rattle.std.proofs.Common.{◌-◌}
use Rattle.words.specs.Words.{raw_at}
use Rattle.readback.proofs.Shortened.{Walk}
use Rattle.readback.proofs.copies.count_short.Given as goal

abbrev pub invariant-loop-at : goal.invariant-loop-at
invariant-loop-at l = Walk (raw_at l.script) l.first l.n l.count l.at

abbrev pub decreases-loop-at : goal.decreases-loop-at
decreases-loop-at l = l.n - l.at
