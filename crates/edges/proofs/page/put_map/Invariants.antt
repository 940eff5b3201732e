-- The loop's invariant: the lines of the first `i` records are put, of 100 bytes at most each.
use Rattle.std.proofs.Common.{◌≤◌, ◌*◌, take}
use Rattle.listing.specs.Records.{records_of}
use Rattle.decimal.specs.Decimal.{Put}
use Rattle.edges.specs.Page.{lines_of}
use Rattle.edges.proofs.page.put_map.Given as goal

abbrev pub invariant-loop-i : goal.invariant-loop-i
invariant-loop-i l =
    Put (lines_of (take l.i (records_of l.map))) 0 l.initial.out l.next l.out ×
    ((l.next ≤ 100 * l.i) × (l.i ≤ l.summary.edges))
