-- What an insertion is (01, "The map", first paragraph).
use Rattle.std.specs.Prelude.{◌≡◌, Bool, true, false, not, ◌&&◌, ◌||◌, List, [], ◌∷◌, ℕ, drop, ltb}
use Rattle.std.specs.Prelude.{Option, Some, None}
use Rattle.fixed.specs.declared.Fixed.{Fixed}
use Rattle.fixed.specs.Fixed.{add_f, sub_f, mul_f, half_f, midpoint_f, less_f, at_most_f, same_f}
use Rattle.stems.specs.declared.edge.Hint.{Hint}
use Rattle.stems.specs.declared.edge.Shape.{Shape}
use Rattle.stems.specs.declared.edge.Shape.TheVariants.{BottomGhost, TopGhost, Pair}
use Rattle.hintmap.specs.declared.map.HintMap.{HintMap}
use Rattle.hintmap.specs.declared.insert.Edges.{Edges}
use Rattle.hintmap.specs.declared.insert.Edges.TheVariants.{One, Two}
use Rattle.stems.specs.Edge.{max_hints, last_hint, is_valid, is_pair_top, at_device}
use Rattle.hintmap.specs.Map.{view, place_among, put_in, map_of, clear_ahead, clear_behind}

-- what a stem's shape has of its bottom edge and its top edge: a ghost's one, or both of a pair
unfoldable pub chosen : Shape → Hint → Hint → Edges
chosen (BottomGhost h) b t = One b
chosen (TopGhost h) b t = One t
chosen (Pair l h) b t = Two b t

-- what is put in is there: a single edge is valid, and both of a pair are
unfoldable pub Valid : Edges → Type 0
Valid (One e) = is_valid e ≡ true
Valid (Two b t) = (is_valid b ≡ true) × (is_valid t ≡ true)

abbrev pub first_edge : Edges → Hint
first_edge (One e) = e
first_edge (Two b t) = b

abbrev pub edges_of : Edges → List Hint
edges_of (One e) = e ∷ []
edges_of (Two b t) = b ∷ t ∷ []

-- a pair is in order, and there is room
unfoldable pub may_enter : ℕ → Edges → Bool
may_enter n (One e) = ltb n max_hints
may_enter n (Two b t) = not (less_f t.cs_coord b.cs_coord) && ltb n last_hint

-- the edge x at the place stands in the way in character height
unfoldable pub bars : Hint → Edges → Bool
bars x (One e) = same_f x.cs_coord e.cs_coord || is_pair_top x
bars x (Two b t) =
    same_f x.cs_coord b.cs_coord || (is_pair_top x || at_most_f x.cs_coord t.cs_coord)

-- either lies above x on the device
unfoldable pub too_high : Hint → Edges → Bool
too_high x (One e) = less_f x.ds_coord e.ds_coord
too_high x (Two b t) = less_f x.ds_coord t.ds_coord || less_f x.ds_coord b.ds_coord

-- the first lies under x on the device
abbrev pub under : Hint → Edges → Bool
under x e = less_f (first_edge e).ds_coord x.ds_coord

-- the height that the initial map is asked for: a single edge's, or a pair's midpoint
abbrev pub middle_of : Edges → Fixed
middle_of (One e) = e.cs_coord
middle_of (Two b t) = midpoint_f b.cs_coord t.cs_coord

-- a pair, plus and minus half its width on the device from a device height
abbrev pub plus_minus : Hint → Hint → Fixed → Fixed → Edges
plus_minus b t d w = Two (at_device b (sub_f d w)) (at_device t (add_f d w))

-- placed by a device height: a single edge there, a pair around it
abbrev pub around : Fixed → Fixed → Edges → Edges
around d s (One e) = One (at_device e d)
around d s (Two b t) = plus_minus b t d (mul_f (half_f (sub_f t.cs_coord b.cs_coord)) s)

-- placed again by the edges and the scale of the initial map
unfoldable pub again : List Hint → Fixed → Fixed → Edges → Edges
again es s₀ s e = around (map_of es s₀ (middle_of e)) s e

abbrev pub placed_by : Bool → List Hint → Fixed → Fixed → Edges → Edges
placed_by true es s₀ s e = again es s₀ s e
placed_by false es s₀ s e = e

-- the tests of the neighbours: the edge at the place, in character height and on the device, and
-- the edge before it
abbrev pub char_clear : List Hint → Edges → Bool
char_clear es e = clear_ahead (λ (x : Hint). bars x e) es

abbrev pub above_clear : List Hint → Edges → Bool
above_clear es e = clear_ahead (λ (x : Hint). too_high x e) es

abbrev pub below_clear : List Hint → ℕ → Edges → Bool
below_clear es at e = clear_behind (λ (x : Hint). under x e) es at

-- put at a place of a map
unfoldable pub put_edges : HintMap → ℕ → Edges → HintMap
put_edges m at e = put_in m at (edges_of e)

-- the place of the edges in a map
abbrev pub place_for : HintMap → Edges → ℕ
place_for m e = place_among (view m) (first_edge e).cs_coord

-- the edges as they are placed: by the initial map where that is given and the first is not locked
abbrev pub placed_for : HintMap → Edges → HintMap → Bool → Edges
placed_for m e initial given =
    placed_by (not (first_edge e).locked && given) (view initial) initial.scale m.scale e

-- a test that does not hold drops the edges, whatever comes of those after it
abbrev pub only_if : Bool → Option (ℕ × Edges) → Option (ℕ × Edges)
only_if true o = o
only_if false o = None

-- what an insertion comes to: the tests in their order, and the edges at their place where all hold
unfoldable pub outcome_of : HintMap → Edges → HintMap → Bool → Option (ℕ × Edges)
outcome_of m e initial given =
    only_if (may_enter m.len e)
    (only_if (char_clear (drop (place_for m e) (view m)) e)
    (only_if (below_clear (view m) (place_for m e) (placed_for m e initial given))
    (only_if (above_clear (drop (place_for m e) (view m)) (placed_for m e initial given))
    (Some (place_for m e, placed_for m e initial given)))))

abbrev pub insert_by : Option (ℕ × Edges) → HintMap → HintMap
insert_by (Some (at, e)) m = put_edges m at e
insert_by None m = m

-- the whole
unfoldable pub insert_in : HintMap → Edges → HintMap → Bool → HintMap
insert_in m e initial given = insert_by (outcome_of m e initial given) m
