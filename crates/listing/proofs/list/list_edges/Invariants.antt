-- `list_edges`: after i turns the list is what was lent, with the records of the first i edges
-- written from its start on.
use Rattle.std.proofs.Common.{◌-◌, ◌≡◌, ◌≤◌}
use Rattle.listing.specs.Records.{record_at}
use Rattle.listing.proofs.Written.{written}
use Rattle.listing.proofs.list.list_edges.Given as goal

abbrev pub invariant-loop-i : goal.invariant-loop-i
invariant-loop-i l = (l.i ≤ l.count) × (l.list ≡ written l.fn.list (record_at l.fn.map) l.i)

abbrev pub decreases-loop-i : goal.decreases-loop-i
decreases-loop-i l = l.count - l.i
