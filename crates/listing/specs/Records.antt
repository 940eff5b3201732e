-- The records of a map's edges, and the summary counted over them (request 2).
use Rattle.std.specs.Prelude.{Bool, not, cond, ◌&&◌, List, [], ◌∷◌, map, ℕ, ◌+◌, length, get_or}
use Rattle.stems.specs.declared.edge.Hint.{Hint}
use Rattle.stems.specs.Edge.{max_hints, no_hint, valid_k, bottom_k, pair_k}
use Rattle.hintmap.specs.declared.map.HintMap.{HintMap}
use Rattle.hintmap.specs.Map.{view}
use Rattle.listing.specs.declared.record.EdgeRecord.{EdgeRecord}
use Rattle.listing.specs.declared.record.Counted.{Counted}
use Rattle.listing.specs.declared.record.Counted.TheVariants.{Pairs, Ghosts, Locked}
use Rattle.listing.specs.declared.summary.Summary.{Summary}

-- ---- records
-- an edge's stem; a synthetic edge is no stem's, and has 96
abbrev pub stem_of : Hint → ℕ
stem_of e = cond e.synthetic max_hints e.index

abbrev pub record_of : Hint → EdgeRecord
record_of e =
    record {
      height = e.cs_coord;
      device = e.ds_coord;
      scale = e.scale;
      kind = e.kind;
      stem = stem_of e;
      locked = e.locked;
    }

-- the record of the edge at a place
abbrev pub record_at : HintMap → ℕ → EdgeRecord
record_at m i = record_of (get_or m.edges i no_hint)

-- the records of a map's edges, lowest first
unfoldable pub edge_records : HintMap → List EdgeRecord
edge_records m = map record_of (view m)

-- the records that are listed; an invalid map has none
unfoldable pub records_of : HintMap → List EdgeRecord
records_of m = cond m.is_valid (edge_records m) []

-- ---- the summary
-- pairs are counted by their bottoms
abbrev pub counts : Counted → EdgeRecord → Bool
counts Pairs r = pair_k r.kind && bottom_k r.kind
counts Ghosts r = valid_k r.kind && not (pair_k r.kind)
counts Locked r = r.locked

-- how many records pass a test
unfoldable pub count_of : (EdgeRecord → Bool) → List EdgeRecord → ℕ
count_of f [] = 0
count_of f (r ∷ rs) = cond (f r) 1 0 + count_of f rs

unfoldable pub summary_of : List EdgeRecord → Summary
summary_of rs =
    record {
      edges = length rs;
      pairs = count_of (counts Pairs) rs;
      ghosts = count_of (counts Ghosts) rs;
      locked = count_of (counts Locked) rs;
    }

abbrev pub no_summary : Summary
no_summary = record { edges = 0; pairs = 0; ghosts = 0; locked = 0 }
