-- The loop's invariant of `put`: the edges from `k` on have gone up by as many places as edges are put
-- in. Assumes nothing.
use Rattle.std.proofs.Common.{◌≤◌, ◌≡◌}
use Rattle.stems.specs.Lists.{edges_in, Whole}
use Rattle.hintmap.proofs.Laws.{shifted}
use Rattle.hintmap.proofs.insert.put.Given as goal

abbrev pub invariant-loop-k : goal.invariant-loop-k
invariant-loop-k l =
    (l.at ≤ l.k) × (Whole l.lines l.tags × (edges_in l.lines l.tags ≡ shifted (edges_in l.fn.lines l.fn.tags)
    l.len l.n l.k))
