-- The loop's invariant of `reached`: the edges behind the first and before `next` are at or below the
-- height. Assumes nothing.
use Rattle.std.proofs.Common.{ℕ, ◌<◌, ◌≡◌, true}
use Rattle.fixed.specs.Fixed.{at_most_f}
use Rattle.stems.specs.Lists.{height_in}
use Rattle.hintmap.proofs.heights.reached.Given as goal

abbrev pub invariant-loop-next : goal.invariant-loop-next
invariant-loop-next l = (j : ℕ) → j < l.next → 0 < j → at_most_f (height_in l.lines j) l.height ≡ true
