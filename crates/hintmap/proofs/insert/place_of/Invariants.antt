-- The loop's invariant of `place_of`: the edge at `at`, if there is one, is not under the height. Assumes
-- nothing.
use Rattle.std.proofs.Common.{◌<◌, ◌≡◌, false}
use Rattle.fixed.specs.Fixed.{less_f}
use Rattle.stems.specs.Lists.{height_in}
use Rattle.hintmap.proofs.insert.place_of.Given as goal

abbrev pub invariant-loop-at : goal.invariant-loop-at
invariant-loop-at l = l.at < l.len → less_f (height_in l.lines l.at) l.height ≡ false
