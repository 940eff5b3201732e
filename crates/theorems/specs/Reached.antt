-- Demand 3, as a reader has it: the drawings that there can be, what each of their maps satisfies,
-- and where their maps and points come from. Heights are compared as the bits of 16.16 numbers.
use Rattle.std.specs.Prelude.{◌≡◌, true, false, ◌∷◌, ◌++◌, ℕ, ◌+◌, ◌≤◌, ◌<◌, leb, pos, length, get_or, ◌≤ℤ◌, ◌<ℤ◌}
use Rattle.fixed.specs.declared.Fixed.{Fixed}
use Rattle.fixed.specs.Fixed.{mul_f, trunc_f}
use Rattle.stems.specs.declared.mask.HintMask.{HintMask}
use Rattle.stems.specs.declared.edge.Kind.TheVariants.{PairBottom, PairTop}
use Rattle.stems.specs.declared.edge.Hint.{Hint}
use Rattle.stems.specs.Edge.{max_hints, no_hint}
use Rattle.zones.specs.declared.state.HintParams.{HintParams}
use Rattle.zones.specs.declared.state.HintState.{HintState}
use Rattle.hintmap.specs.declared.map.HintMap.{HintMap}
use Rattle.hintmap.specs.Map.{view, line, map_of}
use Rattle.build.specs.Build.{initial_of, built_of}
use Rattle.pen.specs.declared.strokes.Point.{Point}
use Rattle.pen.specs.Strokes.{waiting_line, point_words, closing_words, flush_words}
use Rattle.pen.specs.declared.strokes.Path.TheVariants.{Move, Line, Curve}
use Rattle.hints.specs.Hints.{with_initial, built_from, ready_of}
use Rattle.hints.specs.declared.drawing.Drawing.{Drawing}
use Rattle.hints.specs.Calls.{Call, draw, next_of, words_for, room_by}
use Rattle.drawing.specs.Open.{open_of}

-- ---- the drawings that there can be
-- a drawing after a call with room for so many words, which does it or refuses it
abbrev pub after_room : ℕ → HintState → Drawing → Call → Drawing
after_room room st d c = room_by (leb (length (words_for st d c)) room) st d c

-- what opening gives, refused or not, and what any call on such a drawing gives, refused or not
pub data Reached : HintState → Drawing → Type 0 where
  opened : (p : HintParams) (s : Fixed) → Reached (open_of p s).state (open_of p s).drawing
  called : {st : HintState} {d : Drawing} → Reached st d → (c : Call) (room : ℕ) → Reached st (after_room room st d c)

-- what was reached before a drawing: another drawing, and calls from it to this one
pub data Since (st : HintState) (d : Drawing) : Drawing → Type 0 where
  here : Since st d d
  next : {e : Drawing} → Since st d e → (c : Call) (room : ℕ) → Since st d (after_room room st e c)

pub record Earlier (st : HintState) (d before : Drawing) : Type 0 where
  pub reached : Reached st before
  pub since : Since st before d

-- ---- what every map satisfies
-- the edge at a place
abbrev pub edge : HintMap → ℕ → Hint
edge m i = get_or (view m) i no_hint

-- the character height there
abbrev pub height : HintMap → ℕ → Fixed
height m i = (edge m i).cs_coord

-- the edges at two places are bottom and top of one stem
pub record OneStem (m : HintMap) (i j : ℕ) : Type 0 where
  pub bottom : (edge m i).kind ≡ PairBottom
  pub top : (edge m j).kind ≡ PairTop
  pub own : (edge m i).index ≡ (edge m j).index

-- k is the last edge at or below a height
pub record LastBelow (m : HintMap) (h : Fixed) (k : ℕ) : Type 0 where
  pub there : k < m.len
  pub below : (height m k).bits ≤ℤ h.bits
  pub last : (j : ℕ) → k < j → j < m.len → h.bits <ℤ (height m j).bits

-- what can carry a height: an edge with its own scale, the first edge with the drawing's, or the
-- plain scale
pub data Carrier : Type 0 where
  by_edge : ℕ → Carrier
  by_first : Carrier
  by_scale : Carrier

-- and when it does: the last edge at or below the height; the first edge, if all are above; the
-- scale, if there are none
pub data Serves (m : HintMap) (h : Fixed) : Carrier → Type 0 where
  last : (k : ℕ) → LastBelow m h k → Serves m h (by_edge k)
  first : 0 < m.len → ((j : ℕ) → j < m.len → h.bits <ℤ (height m j).bits) → Serves m h by_first
  none : m.len ≡ 0 → Serves m h by_scale

-- the device height that it gives
abbrev pub carried_by : HintMap → Fixed → Carrier → Fixed
carried_by m h (by_edge k) = line (edge m k) (edge m k).scale h
carried_by m h by_first = line (edge m 0) m.scale h
carried_by m h by_scale = mul_f h m.scale

-- exactly one of the three serves a height, and gives what the height is mapped to
pub record Carried (m : HintMap) (h : Fixed) : Type 0 where
  pub by : Carrier
  pub serves : Serves m h by
  pub only : (c : Carrier) → Serves m h c → c ≡ by
  pub device : map_of (view m) m.scale h ≡ carried_by m h by

pub record Sound (m : HintMap) : Type 0 where
  -- at most 96 edges
  pub few : m.len ≤ max_hints
  -- never-falling character height
  pub rising : (i j : ℕ) → i ≤ j → j < m.len → (height m i).bits ≤ℤ (height m j).bits
  -- neighbours share a height only as bottom and top of one stem
  pub shared : (i : ℕ) → i + 1 < m.len → height m i ≡ height m (i + 1) → OneStem m i (i + 1)
  -- every pair's bottom is directly followed by its own top
  pub followed : (i : ℕ) → i < m.len → (edge m i).kind ≡ PairBottom → (i + 1 < m.len) × OneStem m i (i + 1)
  -- every height is carried so
  pub carried : (h : Fixed) → Carried m h

-- ---- where a drawing's maps come from. Was says which drawings were there before
-- a valid initial map is the initial build of the stems as they were when it was made
pub record InitialMade (Was : Drawing → Type 0) (st : HintState) (d : Drawing) : Type 0 where
  pub then : Drawing
  pub was : Was then
  pub invalid : then.hints.initial.is_valid ≡ false
  pub made : d.hints.initial ≡ initial_of st then.hints.stems

-- a valid current map is the build of mask, stems, zones and initial map as they were when it was
-- made. Mask and initial map are still those of the drawing
pub record MapMade (Was : Drawing → Type 0) (st : HintState) (d : Drawing) : Type 0 where
  pub then : Drawing
  pub was : Was then
  pub invalid : then.hints.map.is_valid ≡ false
  pub made : d.hints.map ≡
      (built_of st then.hints.mask (with_initial st then.hints).initial then.hints.stems).map
  pub mask : d.hints.mask ≡ then.hints.mask
  pub initial : d.hints.initial ≡ (with_initial st then.hints).initial

-- ---- where its points come from
-- the map that a call with a point goes by: the current one, built first if it is invalid
abbrev pub current_map : HintState → Drawing → HintMap
current_map st d = (ready_of st d.hints).map

-- the map that a counter mask builds and throws away
abbrev pub counter_map : HintState → Drawing → HintMask → HintMap
counter_map st d m = (built_from st m (with_initial st d.hints)).map

-- a point on the device: x by the scale, y as the current map carries it, the low 10 bits of both
-- cleared
abbrev pub carried_point : HintState → Drawing → Point → Point
carried_point st d p =
    record {
      x = trunc_f (mul_f p.x st.scale);
      y = trunc_f (map_of (view (current_map st d)) (current_map st d).scale p.y);
    }

-- the words of a move, a line and a curve. A line waits with its point
pub record Pointed (st : HintState) (d : Drawing) : Type 0 where
  pub move : (p : Point) → words_for st d (draw (Move p)) ≡
      closing_words d.pen ++ pos 1 ∷ point_words (carried_point st d p)
  pub line : (p : Point) → words_for st d (draw (Line p)) ≡ flush_words d.pen
  pub waits : (p : Point) → (next_of st d (draw (Line p))).pen.waiting ≡ waiting_line p (carried_point st d p)
  pub curve : (p q r : Point) →
      words_for st d (draw (Curve p q r)) ≡
      flush_words d.pen ++ (pos 3 ∷ point_words (carried_point st d p) ++ point_words (carried_point st d q) ++
      point_words (carried_point st d r))

-- the point of a line that waits was carried at the line's own call
pub record LineMade (Was : Drawing → Type 0) (st : HintState) (at device : Point) : Type 0 where
  pub then : Drawing
  pub was : Was then
  pub carried : device ≡ carried_point st then at

-- ---- demand 3 of a drawing
pub record Demand3 (Was : Drawing → Type 0) (st : HintState) (d : Drawing) : Type 0 where
  -- both maps are sound, of the drawing's scale, and the ones that demand 2 defines
  pub initial : Sound d.hints.initial
  pub map : Sound d.hints.map
  pub initial_scale : d.hints.initial.scale ≡ st.scale
  pub map_scale : d.hints.map.scale ≡ st.scale
  pub initial_made : d.hints.initial.is_valid ≡ true → InitialMade Was st d
  pub map_made : d.hints.map.is_valid ≡ true → MapMade Was st d
  -- so are the map by which its points go and that of any counter mask
  pub current : Sound (current_map st d)
  pub thrown : (m : HintMask) → Sound (counter_map st d m)
  -- points come by the current map
  pub pointed : Pointed st d
  pub waiting : (at device : Point) → d.pen.waiting ≡ waiting_line at device → LineMade Was st at device
