-- The map that lists hold: what counts of it, its order, and what a write makes of it. Assumes
-- nothing.
use mathlib.Core.Path.{◌≡◌, refl, sym, ap, ◌∙◌}
use mathlib.Core.List.{List, [], ◌∷◌, ◌++◌, append_assoc}
use Prim.Native.Nat.{ℕ, suc, ◌+◌, ◌-◌, ◌≤◌, ◌<◌, min}
use native.Mathlib.Numerals.{add-one}
use native.Mathlib.Omega.{arith}
use lib.IntN.{ℤ}
use lib.ListN.{length, get_or, set, take, drop, replicate, length-append, get_or-append, length-replicate}
use lib.ListN.{replicate-append-replicate}
use lib.Seq.{take_at, drop_at, drop-append-add, length-take-le, get_or-take, take-set-lt, set-append_left}
use lib.Seq.{set_at, take-suc}
use Rattle.fixed.specs.declared.Fixed.{Fixed}
use Rattle.fixed.proofs.Counts.{take-least}
use Rattle.stems.specs.declared.edge.Hint.{Hint}
use Rattle.stems.specs.Edge.{no_hint}
use Rattle.stems.specs.Lists.{height_in, hint_in, edges_in, held, Whole, Listed, set_line}
use Rattle.stems.proofs.Places.{on_line, edges-long, edge_in, height-of, line-is}
use Rattle.hintmap.specs.declared.map.HintMap.{HintMap}
use Rattle.hintmap.specs.declared.insert.Edges.{Edges}
use Rattle.hintmap.specs.Map.{view}
use Rattle.hintmap.specs.Insert.{edges_of, put_edges}
use Rattle.hintmap.specs.Lent.{map_in, Rises, Lent, LinesOf, Entered}
use Rattle.hintmap.specs.WholeStems.{height, Ascends}

module _ (ls : List ℤ) (ts : List ℕ) (n : ℕ) (h : n ≤ 96) where
  pub held-length : length (held ls ts n) ≡ n
  held-length = length-take-le n (edges_in ls ts) (omega (arith, edges-long ls ts))

  -- what counts of the map, and how long its list is
  pub view-map : (s : Fixed) → view (map_in ls ts n s) ≡ held ls ts n
  unfolding map_in
  view-map s = take_at (held ls ts n) _ n held-length

  pub map-long : (s : Fixed) → length (map_in ls ts n s).edges ≡ 96
  unfolding map_in
  map-long s =
      rw (length-append (held ls ts n) (replicate (96 - n) no_hint), held-length, length-replicate (96 - n) no_hint)
      (omega arith)

  pub map-len : (s : Fixed) → (map_in ls ts n s).len ≡ n
  unfolding map_in
  map-len s = refl

  -- a map in lists has their lines
  pub own-lines : (s : Fixed) → LinesOf (map_in ls ts n s) ls n
  own-lines s = record { tags = ts; edges = view-map s }

  pub map-scale : (s : Fixed) → (map_in ls ts n s).scale ≡ s
  unfolding map_in
  map-scale s = refl

  -- the edge at a place that counts
  pub held_at : (i : ℕ) → i < n → get_or (held ls ts n) i no_hint ≡ hint_in ls ts i
  held_at i l = get_or-take n (edges_in ls ts) i no_hint l ∙ edge_in ls ts i (omega arith)

  pub held-height : (i : ℕ) → i < n → height (get_or (held ls ts n) i no_hint) ≡ height_in ls i
  held-height i l =
      ap height (get_or-take n (edges_in ls ts) i no_hint l) ∙ height-of ls ts i (omega arith)

  -- the order of heights is the order of edges
  pub ascends : Rises ls n → Ascends (held ls ts n)
  ascends r i j l k =
      let m : j < n = omega (arith, held-length) in
      rw (held-height i (omega arith), held-height j m) (r i j l m)

  pub rises : Ascends (held ls ts n) → Rises ls n
  rises a i j l k =
      let b = a i j l (omega (arith, held-length)) in
      rw (held-height i (omega arith), held-height j k) at b

  -- the places past those that are filled stay unused
  unused : (g : ℕ) → n + g ≤ 96 → drop (n + g) (held ls ts n ++ replicate (96 - n) no_hint) ≡
      replicate (96 - (n + g)) no_hint
  unused g k =
      let e : 96 - n ≡ g + (96 - (n + g)) = omega arith in
      ap (λ (j : ℕ). drop (j + g) (held ls ts n ++ replicate (96 - n) no_hint)) (sym held-length) ∙
      drop-append-add (held ls ts n) (replicate (96 - n) no_hint) g ∙
      ap (λ (j : ℕ). drop g (replicate j no_hint)) e ∙
      ap (drop g) (sym (replicate-append-replicate g (96 - (n + g)) no_hint)) ∙
      drop_at (replicate g no_hint) (replicate (96 - (n + g)) no_hint) g (length-replicate g no_hint)

  -- edges that entered at a place are put there in the map
  pub put_map : (s : Fixed) (at : ℕ) (e : Edges) (n' : ℕ) (ls' : List ℤ) (ts' : List ℕ) →
      n + length (edges_of e) ≤ 96 → Entered ls ts n at (edges_of e) n' ls' ts' →
      map_in ls' ts' n' s ≡ put_edges (map_in ls ts n s) at e
  unfolding map_in put_edges
  put_map s at e n' ls' ts' k m =
      rw (m.edges, m.longer, view-map s, unused (length (edges_of e)) k)

  module _ (s : Fixed) (i : ℕ) (l : i < n) where
    -- an edge read
    pub read_is : get_or (map_in ls ts n s).edges i no_hint ≡ hint_in ls ts i
    unfolding map_in
    read_is =
        get_or-append (held ls ts n) (replicate (96 - n) no_hint) no_hint i (omega (arith, held-length)) ∙
        held_at i l

    pub read-height : height (get_or (map_in ls ts n s).edges i no_hint) ≡ height_in ls i
    unfolding hint_in
    read-height = rw read_is

    -- and one written of which the device height and the scale alone are new
    pub line-map : (e : Hint) → Whole ls ts → e ≡ on_line e (get_or (map_in ls ts n s).edges i no_hint) →
        (map_in (set_line ls i e) ts n s).edges ≡ set (map_in ls ts n s).edges i e
    unfolding map_in
    line-map e w k =
        let p = line-is ls ts w i (omega arith) e ∙
        ap (λ (x : Hint). set (edges_in ls ts) i (on_line e x)) (edge_in ls ts i (omega arith) ∙ sym read_is) ∙
        ap (set (edges_in ls ts) i) (sym k) in
        ap (λ (es : List Hint). take n es ++ replicate (96 - n) no_hint) p ∙
        ap (λ (es : List Hint). es ++ replicate (96 - n) no_hint) (take-set-lt n (edges_in ls ts) i e l) ∙
        sym (set-append_left (held ls ts n) (replicate (96 - n) no_hint) i e (omega (arith, held-length)))

-- one edge more than so many
pub grown : (ls : List ℤ) (ts : List ℕ) (i : ℕ) (s : Fixed) → i < 96 →
    set (map_in ls ts i s).edges i (hint_in ls ts i) ≡ (map_in ls ts (i + 1) s).edges
unfolding map_in
grown ls ts i s p =
    let l = held-length ls ts i (omega arith) in
    let e : 96 - i ≡ suc (96 - suc i) = omega arith in
    let k : i < length (edges_in ls ts) = omega (arith, edges-long ls ts) in
    rw (
      add-one i,
      e,
      set_at (held ls ts i) no_hint (replicate (96 - suc i) no_hint) (hint_in ls ts i) i l,
      take-suc (edges_in ls ts) i no_hint k,
      edge_in ls ts i p,
    )
    (sym (append_assoc (held ls ts i) (hint_in ls ts i ∷ []) (replicate (96 - suc i) no_hint)))

-- lists that hold no edge
pub none_lent : (ls : List ℤ) (ts : List ℕ) → Whole ls ts → Lent ls ts 0
none_lent ls ts w = record { whole = w; fits = omega arith; order = λ i j p q. absurd (omega arith) }

-- the lines of a map's edges, as many as there is room for
pub listed-lines : (m : HintMap) (ls : List ℤ) (ts : List ℕ) (k : ℕ) → length m.edges ≡ 96 →
    Listed m.edges ls ts → k ≡ min m.len 96 → LinesOf m ls k
listed-lines m ls ts k long l e =
    record {
      tags = ts;
      edges =
          sym (ap (take k) l.edges ∙ ap (λ (n : ℕ). take n m.edges) e ∙ take-least m.len 96 m.edges long);
    }
