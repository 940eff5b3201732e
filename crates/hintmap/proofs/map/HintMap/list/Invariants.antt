-- The loop's invariant of `HintMap::list`: the first `i` places hold the map's edges. Assumes nothing.
use Rattle.std.proofs.Common.{ℕ, ◌<◌, ◌≡◌, get_or}
use Rattle.stems.specs.Edge.{no_hint}
use Rattle.stems.specs.Lists.{edges_in, Whole}
use Rattle.hintmap.proofs.map.HintMap.list.Given as goal

abbrev pub invariant-loop-i : goal.invariant-loop-i
invariant-loop-i l =
    Whole l.lines l.tags ×
    ((j : ℕ) → j < l.i → get_or (edges_in l.lines l.tags) j no_hint ≡ get_or l.fn.self.edges j no_hint)
