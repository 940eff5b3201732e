-- The loop's invariant of `counted`: of the edges behind the first and before `i`, the first `count` are
-- at or below the height, and every other is above it. Assumes nothing.
use Rattle.std.proofs.Common.{ℕ, ◌+◌, ◌<◌, ◌≡◌, true, false}
use Rattle.fixed.specs.Fixed.{at_most_f}
use Rattle.stems.specs.Lists.{height_in}
use Rattle.hintmap.proofs.heights.counted.Given as goal

abbrev pub invariant-loop-i : goal.invariant-loop-i
invariant-loop-i l =
    (l.count < l.i) × (((j : ℕ) → j < l.count → at_most_f (height_in l.lines (j + 1)) l.height ≡ true) ×
    ((j : ℕ) → j < l.i → l.count < j → at_most_f (height_in l.lines j) l.height ≡ false))
