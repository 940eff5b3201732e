-- Stems and their edges (01, "Stems and masks", first paragraph).
use Rattle.std.specs.Prelude.{Bool, true, false, cond, ◌&&◌, ℕ, pos, neg_ℤ}
use Rattle.fixed.specs.declared.Fixed.{Fixed}
use Rattle.fixed.specs.Fixed.{whole, ZERO, sub_f, mul_f, less_f, same_f}
use Rattle.stems.specs.declared.edge.StemHint.{StemHint}
use Rattle.stems.specs.declared.edge.Kind.{Kind}
use Rattle.stems.specs.declared.edge.Kind.TheVariants.{Absent, GhostBottom, GhostTop, PairBottom, PairTop}
use Rattle.stems.specs.declared.edge.Side.{Side}
use Rattle.stems.specs.declared.edge.Side.TheVariants.{Bottom, Top}
use Rattle.stems.specs.declared.edge.Hint.{Hint}
use Rattle.stems.specs.declared.edge.Shape.{Shape}
use Rattle.stems.specs.declared.edge.Shape.TheVariants.{BottomGhost, TopGhost, Pair}

-- the most stems of a glyph, and the most edges of a map
abbrev pub max_hints : ℕ
max_hints = 96

-- the number of the last stem, and the least length of a map without room for a pair
abbrev pub last_hint : ℕ
last_hint = 95

-- ---- kinds of edges
abbrev pub valid_k : Kind → Bool
valid_k Absent = false
valid_k GhostBottom = true
valid_k GhostTop = true
valid_k PairBottom = true
valid_k PairTop = true

abbrev pub bottom_k : Kind → Bool
bottom_k Absent = false
bottom_k GhostBottom = true
bottom_k GhostTop = false
bottom_k PairBottom = true
bottom_k PairTop = false

abbrev pub top_k : Kind → Bool
top_k Absent = false
top_k GhostBottom = false
top_k GhostTop = true
top_k PairBottom = false
top_k PairTop = true

abbrev pub pair_k : Kind → Bool
pair_k Absent = false
pair_k GhostBottom = false
pair_k GhostTop = false
pair_k PairBottom = true
pair_k PairTop = true

abbrev pub pair_top_k : Kind → Bool
pair_top_k Absent = false
pair_top_k GhostBottom = false
pair_top_k GhostTop = false
pair_top_k PairBottom = false
pair_top_k PairTop = true

abbrev pub is_valid : Hint → Bool
is_valid e = valid_k e.kind

abbrev pub is_bottom : Hint → Bool
is_bottom e = bottom_k e.kind

abbrev pub is_top : Hint → Bool
is_top e = top_k e.kind

abbrev pub is_pair : Hint → Bool
is_pair e = pair_k e.kind

abbrev pub is_pair_top : Hint → Bool
is_pair_top e = pair_top_k e.kind

-- ---- edges
-- an unlocked edge of stem i: a kind, a character height h, and h·scale on the device
abbrev pub hint_at : Kind → Fixed → ℕ → Fixed → Hint
hint_at k h i s =
    record {
      kind = k;
      locked = false;
      synthetic = false;
      index = i;
      cs_coord = h;
      ds_coord = mul_f h s;
      scale = s;
    }

-- the record that an unused place of a map holds
abbrev pub no_hint : Hint
no_hint =
    record {
      kind = Absent;
      locked = false;
      synthetic = false;
      index = 0;
      cs_coord = ZERO;
      ds_coord = ZERO;
      scale = ZERO;
    }

-- the edge at another device height, locked or not as l says
abbrev pub with_device : Bool → Hint → Fixed → Hint
with_device l e d =
    record {
      kind = e.kind;
      locked = l;
      synthetic = e.synthetic;
      index = e.index;
      cs_coord = e.cs_coord;
      ds_coord = d;
      scale = e.scale;
    }

abbrev pub at_device : Hint → Fixed → Hint
at_device e d = with_device e.locked e d

abbrev pub locked_at : Hint → Fixed → Hint
locked_at e d = with_device true e d

-- ---- a stem's edges
-- max − min
abbrev pub width : StemHint → Fixed
width s = sub_f s.max s.min

-- a width of −21.0 is a bottom ghost at max, −20.0 a top ghost at min, any other negative width a
-- pair with its ends swapped
unfoldable pub shape_of : StemHint → Shape
shape_of s =
    cond (same_f (width s) (whole (neg_ℤ (pos 21)))) (BottomGhost s.max)
    (cond (same_f (width s) (whole (neg_ℤ (pos 20)))) (TopGhost s.min)
    (cond (less_f (width s) ZERO) (Pair s.max s.min) (Pair s.min s.max)))

-- the bottom edge or the top edge of a shape; a ghost's other edge is absent
unfoldable pub edge_of : Shape → Side → ℕ → Fixed → Hint
edge_of (BottomGhost h) Bottom i s = hint_at GhostBottom h i s
edge_of (BottomGhost h) Top i s = hint_at Absent ZERO i s
edge_of (TopGhost h) Bottom i s = hint_at Absent ZERO i s
edge_of (TopGhost h) Top i s = hint_at GhostTop h i s
edge_of (Pair b t) Bottom i s = hint_at PairBottom b i s
edge_of (Pair b t) Top i s = hint_at PairTop t i s

-- the height that a used stem has saved for an edge
abbrev pub saved_for : StemHint → Hint → Fixed
saved_for s e = cond (is_top e) s.ds_max s.ds_min

-- an edge of a used stem starts locked at the saved height
abbrev pub used_by : Bool → StemHint → Hint → Hint
used_by true s e = locked_at e (saved_for s e)
used_by false s e = e

-- stem number i's bottom edge or top edge
unfoldable pub setup_of : StemHint → ℕ → Fixed → Side → Hint
setup_of st i s b = used_by (st.is_used && is_valid (edge_of (shape_of st) b i s)) st (edge_of (shape_of st) b i s)
