-- The records of every map that there can be are in order: by its whole stems, place by place and
-- in their counts. Assumes nothing.
use mathlib.Core.Path.{◌≡◌, refl, sym, subst}
use mathlib.Core.Bool.{Bool, true, false, cond, true≢false}
use mathlib.Core.List.{List, [], map}
use Prim.Native.Nat.{ℕ, ◌+◌, ◌-◌, ◌≤◌, ◌<◌}
use native.Mathlib.Omega.{arith}
use lib.Dec.{leb}
use lib.ListN.{length, take, get_or, length-map, length-take, get_or-map}
use lib.Seq.{take_at}
use Rattle.stems.specs.declared.edge.Kind.{Kind}
use Rattle.stems.specs.declared.edge.Kind.TheVariants.{Absent, GhostBottom, GhostTop, PairBottom, PairTop}
use Rattle.stems.specs.declared.edge.Hint.{Hint}
use Rattle.stems.specs.Edge.{no_hint, valid_k, pair_k, pair_top_k}
use Rattle.zones.specs.declared.state.HintState.{HintState}
use Rattle.hintmap.specs.declared.map.HintMap.{HintMap}
use Rattle.hintmap.specs.Map.{view}
use Rattle.hintmap.specs.WholeStems.{Pair, WholeStems, none, one, two}
use Rattle.hintmap.proofs.WholeStems.{Good}
use Rattle.hintmap.proofs.Words.{stems-ascend, bottom-top, top-bottom, present}
use Rattle.hints.specs.declared.drawing.Drawing.{Drawing}
use Rattle.words.specs.Bytes.{over}
use Rattle.listing.specs.declared.record.EdgeRecord.{EdgeRecord}
use Rattle.std.specs.Prelude.{Ok, Err}
use Rattle.listing.specs.Records.{record_of, edge_records, records_of, count_of, summary_of}
use Rattle.listing.specs.Listing.{ListAnswer, list_summary, list_answer, records_in, Lists}
use Rattle.script.specs.Script.{calls_in, map_at}
use Rattle.theorems.specs.Demand1.{Checked}
use Rattle.theorems.specs.Reached.{Reached}
use Rattle.theorems.specs.Listed.{nth, OneOfFour, ghost_bottom, ghost_top, pair_bottom, pair_top, OwnTop, Summed}
use Rattle.theorems.specs.Listed.{InOrder}
use Rattle.theorems.proofs.Sound.{fine}
use Rattle.theorems.proofs.Demand3.{reached}

-- ---- the records of whole stems
-- what is there is of one of the four kinds, and what is no pair's is no top
four : (k : Kind) → valid_k k ≡ true → OneOfFour k
four Absent e = absurd (true≢false (sym e))
four GhostBottom e = ghost_bottom
four GhostTop e = ghost_top
four PairBottom e = pair_bottom
four PairTop e = pair_top

no_top : (k : Kind) → pair_k k ≡ false → pair_top_k k ≡ false
no_top Absent e = refl
no_top GhostBottom e = refl
no_top GhostTop e = refl
no_top PairBottom e = refl
no_top PairTop e = e

-- a single edge is a ghost, and each two others are one bottom and one top
summed : {es : List Hint} → WholeStems es → Summed (map record_of es)
unfolding count_of summary_of
summed none = record { tops = refl; edges = refl }
summed (one {x} s f r) =
    let ih = summed r in
    let t = no_top x.kind s.single in
    record {
      tops = rw (t, s.single) (omega (arith, ih.tops));
      edges = rw (s.present, s.single) (omega (arith, ih.edges));
    }
summed (two s o f r) =
    let ih = summed r in
    record {
      tops = rw (s.bottom, s.top) (omega (arith, ih.tops));
      edges = rw (s.bottom, s.top) (omega (arith, ih.edges));
    }

module _ (es : List Hint) (whole : WholeStems es) where
  abbrev rs : List EdgeRecord
  rs = map record_of es

  -- the record at a place is that of the edge there
  at : (i : ℕ) → nth rs i ≡ record_of (get_or es i no_hint)
  at i = get_or-map record_of es i no_hint

  long : length rs ≡ length es
  long = length-map es record_of

  own-top : (i : ℕ) → i + 1 < length es → Pair (get_or es i no_hint) (get_or es (i + 1) no_hint) → OwnTop rs i
  own-top i l p =
      record {
        there = omega (arith, long);
        bottom = rw (at i) p.bottom;
        top = rw (at (i + 1)) p.top;
        own = rw (at i, at (i + 1), p.bottom_real, p.top_real) p.own;
      }

  before : (j : ℕ) → j < length es → (get_or es j no_hint).kind ≡ PairTop → (i : ℕ) × ((j ≡ i + 1) × OwnTop rs i)
  before j l k =
      let b = top-bottom whole j l k in
      let e : j - 1 + 1 ≡ j = omega (arith, b.0) in
      (j - 1, (sym e, own-top (j - 1) (omega (arith, b.0)) (rw e b.1)))

  -- the records of whole stems are in order
  whole-in-order : length es ≤ 96 → InOrder rs
  whole-in-order few =
      record {
        few = omega (arith, long);
        kinds = λ i l. rw (at i) (four _ (present whole i (omega (arith, long))));
        rising = λ i j h l. rw (at i, at j) (stems-ascend whole i j (omega arith) (omega (arith, long)));
        followed = λ i l k.
            let f = bottom-top whole i (omega (arith, long)) (rw (at i) at k) in
            own-top i f.0 f.1;
        preceded = λ j l k. before j (omega (arith, long)) (rw (at j) at k);
        summed = summed whole;
      }

-- ---- of a map in order
-- the empty list, which an invalid map has, is in order
nothing : InOrder []
nothing = whole-in-order [] none (omega arith)

in_order : (m : HintMap) → Good m → InOrder (records_of m)
unfolding records_of edge_records
in_order m g = go m.is_valid
  where
    go : (b : Bool) → InOrder (cond b (edge_records m) [])
    go true = whole-in-order (view m) g.stems (omega (arith, g.within, length-take m.len m.edges))
    go false = nothing

-- ---- of every map that there can be
pub listed : {st : HintState} {d : Drawing} → Reached st d → InOrder (records_of d.hints.map)
listed {d = d} r = in_order d.hints.map (fine r).map

-- the first records of a lent list, as many as the answer says, are in order; refused, they are none
list-front : (m : HintMap) → Good m → (list : List EdgeRecord) →
    let room = length list in
    InOrder (take (list_summary (list_answer m room)).edges (over (records_in m room) list))
unfolding list_answer records_in over summary_of
list-front m g list = go (leb (length (records_of m)) (length list))
  where
    go : (b : Bool) →
        InOrder (take (list_summary (cond b (Ok (summary_of (records_of m))) (Err (record {})))).edges
        (over (cond b (records_of m) []) list))
    go true = subst InOrder (sym (take_at (records_of m) _ (length (records_of m)) refl)) (in_order m g)
    go false = nothing

pub listing-in-order : {st : HintState} {d : Drawing} {list left : List EdgeRecord} {said : ListAnswer} →
    Reached st d → Lists d.hints.map list said left → InOrder (take (list_summary said).edges left)
listing-in-order {d = d} {list = list} r l =
    rw (l.answer, l.memory) (list-front d.hints.map (fine r).map list)

-- so are the records after any number of a script's commands
pub listed_in : (s : List ℕ) → Checked s → (k : ℕ) → InOrder (records_of (map_at s k))
unfolding map_at
listed_in s c k = listed (reached s c (take k (calls_in s)))
