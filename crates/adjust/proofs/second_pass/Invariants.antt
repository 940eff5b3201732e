-- The loop's invariant of `second_pass`: the lists are lent as at the start, and the first k notes, tried
-- on the map that they hold, give what all notes give on the first map. Assumes nothing.
use Rattle.std.proofs.Common.{◌≡◌}
use Rattle.fixed.specs.declared.Fixed.{Fixed}
use Rattle.hintmap.specs.Lent.{map_in, Lent}
use Rattle.adjust.specs.Second.{second_pass}
use Rattle.adjust.specs.Adjusted.{notes_in}
use Rattle.adjust.proofs.second_pass.Given as goal

abbrev pub invariant-loop-k : goal.invariant-loop-k
invariant-loop-k l =
    Lent l.lines l.tags l.len × ((s : Fixed) →
    second_pass l.count (notes_in l.at l.by l.count) (map_in l.fn.lines l.tags l.len s) ≡
    second_pass l.k (notes_in l.at l.by l.count) (map_in l.lines l.tags l.len s))
