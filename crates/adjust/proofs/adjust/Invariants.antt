-- The loop's invariant of `adjust`: the lists are lent as at the start, there are no more notes than
-- edges passed, and the first pass from edge i, with the map that the lists hold and the notes so far, is
-- the first pass. The measure is what is left of the edges. Assumes nothing.
use Rattle.std.proofs.Common.{◌≡◌, ◌≤◌, ◌-◌, length, replicate}
use Rattle.fixed.specs.declared.Fixed.{Fixed}
use Rattle.hintmap.specs.Lent.{map_in, Lent}
use Rattle.adjust.specs.Pass.{pass_from, first_pass}
use Rattle.adjust.specs.Adjusted.{notes_in}
use Rattle.adjust.proofs.Turns.{so_far}
use Rattle.adjust.proofs.adjust.Given as goal

abbrev pub invariant-loop-i : goal.invariant-loop-i
invariant-loop-i l =
    Lent l.lines l.tags l.len × ((l.i ≤ l.len) × ((l.count ≤ l.i) × ((length l.by ≡ 96) × ((s : Fixed) →
    first_pass (so_far (map_in l.fn.lines l.tags l.len s) (notes_in (replicate 96 0) l.fn.by 0)) ≡
    pass_from (l.len - l.i) l.i (so_far (map_in l.lines l.tags l.len s) (notes_in l.at l.by l.count))))))

abbrev pub decreases-loop-i : goal.decreases-loop-i
decreases-loop-i l = l.len - l.i
