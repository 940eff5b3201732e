-- What the edge map is, over the list of its edges (01, "The map").
use Rattle.std.specs.Prelude.{Bool, true, false, not, cond, List, [], ◌∷◌, ◌++◌, ℕ, zero, suc, ◌+◌, length, take, drop}
use Rattle.std.specs.Prelude.{get_or, replicate}
use Rattle.fixed.specs.declared.Fixed.{Fixed}
use Rattle.fixed.specs.Fixed.{add_f, sub_f, mul_f, less_f, at_most_f}
use Rattle.stems.specs.declared.edge.Hint.{Hint}
use Rattle.hintmap.specs.declared.map.HintMap.{HintMap}
use Rattle.stems.specs.Edge.{max_hints, no_hint}

-- a map with no edges, to be built
abbrev pub new_map : Fixed → HintMap
new_map s = record { edges = replicate max_hints no_hint; len = 0; is_valid = false; scale = s }

-- the same map, to be built anew
abbrev pub invalid_map : HintMap → HintMap
invalid_map m = record { edges = m.edges; len = m.len; is_valid = false; scale = m.scale }

-- the same map, built
abbrev pub valid_map : HintMap → HintMap
valid_map m = record { edges = m.edges; len = m.len; is_valid = true; scale = m.scale }

-- the edges of a map
abbrev pub view : HintMap → List Hint
view m = take m.len m.edges

-- a count of leading edges: one more where the test holds of the first, and 0 where it does not
abbrev pub count_by : Bool → ℕ → ℕ
count_by true n = suc n
count_by false n = 0

-- how many edges pass a test before the first that does not
unfoldable pub leading : (Hint → Bool) → List Hint → ℕ
leading f [] = 0
leading f (e ∷ es) = count_by (f e) (leading f es)

-- the place of a height: before the first edge that is not below it
abbrev pub place_among : List Hint → Fixed → ℕ
place_among es h = leading (λ (e : Hint). less_f e.cs_coord h) es

-- edges put at a place of a list
abbrev pub put_at : List Hint → ℕ → List Hint → List Hint
put_at es at new = take at es ++ (new ++ drop at es)

-- edges put at a place of a map: those from there on go up, and the records past them stay
abbrev pub put_in : HintMap → ℕ → List Hint → HintMap
put_in m at new =
    record {
      edges = put_at (view m) at new ++ drop (m.len + length new) m.edges;
      len = m.len + length new;
      is_valid = m.is_valid;
      scale = m.scale;
    }

-- ---- mapping a height

-- how many edges at the front are at or below a height
abbrev pub reach : List Hint → Fixed → ℕ
reach es h = leading (λ (e : Hint). at_most_f e.cs_coord h) es

-- of edges in order, those at or below a height
abbrev pub below : List Hint → Fixed → List Hint
below es h = take (reach es h) es

-- the last of an edge and those after it
unfoldable pub last_of : Hint → List Hint → Hint
last_of e [] = e
last_of e (x ∷ xs) = last_of x xs

-- the edge that serves a height: the last at or below it, and the first under all
abbrev pub serving : Hint → List Hint → Fixed → Hint
serving e es h = last_of e (below es h)

-- (height − edge height)·scale + edge device height
unfoldable pub line : Hint → Fixed → Fixed → Fixed
line e s h = add_f (mul_f (sub_f h e.cs_coord) s) e.ds_coord

-- the line through an edge, with its own scale, or under it with the map's
abbrev pub line_by : Hint → Fixed → Fixed → Fixed
line_by x s h = line x (cond (less_f h x.cs_coord) s x.scale) h

-- the line through the edge that serves, and with no edges height·scale
unfoldable pub map_of : List Hint → Fixed → Fixed → Fixed
map_of [] s h = mul_f h s
map_of (e ∷ es) s h = line_by (serving e es h) s h

-- ---- the tests beside a place

-- the first edge of the list, if there is one, is not one that f names
unfoldable pub clear_ahead : (Hint → Bool) → List Hint → Bool
clear_ahead f [] = true
clear_ahead f (x ∷ xs) = not (f x)

-- the edge directly before a place, if there is one, is not one that f names
unfoldable pub clear_behind : (Hint → Bool) → List Hint → ℕ → Bool
clear_behind f es zero = true
clear_behind f es (suc i) = not (f (get_or es i no_hint))
