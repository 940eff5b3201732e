-- The stems that `put_stems` has put so far leave a map in its lists. Assumes nothing.
use Rattle.hintmap.specs.Lent.{Lent}
use Rattle.test_maps.proofs.maps.put_stems.Given as goal

abbrev pub invariant-loop-i : goal.invariant-loop-i
invariant-loop-i l = Lent l.lines l.tags l.len
