-- The loop's invariant of `HintMap::from_lists`: the map has the edges of the first `i` places, and is
-- unused past them. Assumes nothing.
use Rattle.std.proofs.Common.{◌≡◌, false}
use Rattle.hintmap.specs.Lent.{map_in}
use Rattle.hintmap.proofs.map.HintMap.from_lists.Given as goal

abbrev pub invariant-loop-i : goal.invariant-loop-i
invariant-loop-i l =
    let s = l.fn.scale in
    l.map ≡ record { edges = (map_in l.lines l.tags l.i s).edges; len = 0; is_valid = false; scale = s }
