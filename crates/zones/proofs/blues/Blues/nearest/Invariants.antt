-- `Blues::nearest`'s loop: the search among the pairs from the present one on, from the nearest so far,
-- finds what the whole search finds. Assumes nothing.
use Rattle.std.proofs.Common.{◌≡◌}
use Rattle.zones.specs.Zones.{nearest_of}
use Rattle.zones.proofs.Family.{search_from}
use Rattle.zones.proofs.blues.Blues.nearest.Given as goal

abbrev pub invariant-loop-pair : goal.invariant-loop-pair
invariant-loop-pair l =
    search_from l.side l.pair-items l.flat l.limit l.near l.pair-index ≡ nearest_of l.side l.fn.self l.flat l.limit
