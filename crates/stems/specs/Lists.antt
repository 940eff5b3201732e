-- Edges and stems as numbers in lists: how they lie there, and what is read.
use Rattle.std.specs.Prelude.{◌≡◌, Bool, true, false, List, [], ◌∷◌, ℕ, zero, suc, ◌+◌, ◌/◌, ◌%◌, eqb, ℤ, pos, length}
use Rattle.std.specs.Prelude.{get_or, set, take}
use Rattle.fixed.specs.declared.Fixed.{Fixed}
use Rattle.fixed.specs.Fixed.{from_bits, ZERO, ONE, less_f}
use Rattle.stems.specs.declared.edge.Hint.{Hint}
use Rattle.stems.specs.declared.edge.StemHint.{StemHint}
use Rattle.stems.specs.declared.edge.Stems.{Stems}
use Rattle.stems.specs.declared.edge.Kind.{Kind}
use Rattle.stems.specs.declared.edge.Kind.TheVariants.{Absent, GhostBottom, GhostTop, PairBottom, PairTop}
use Rattle.stems.specs.Edge.{max_hints}

-- the first n values of a function
unfoldable pub tabulate : {A : Type 0} → (ℕ → A) → ℕ → List A
tabulate f zero = []
tabulate f (suc n) = f 0 ∷ tabulate (λ (i : ℕ). f (suc i)) n

-- ---- tags: the kind's number, 8 more where the edge is locked, 16 more where it is synthetic
abbrev pub kind_at : ℕ → Kind
kind_at zero = Absent
kind_at (suc zero) = GhostBottom
kind_at (suc (suc zero)) = GhostTop
kind_at (suc (suc (suc zero))) = PairBottom
kind_at (suc (suc (suc (suc n)))) = PairTop

abbrev pub kind_number : Kind → ℕ
kind_number Absent = 0
kind_number GhostBottom = 1
kind_number GhostTop = 2
kind_number PairBottom = 3
kind_number PairTop = 4

abbrev pub mark : Bool → ℕ → ℕ
mark true w = w
mark false w = 0

unfoldable pub kind_in : ℕ → Kind
kind_in tag = kind_at (tag % 8)

abbrev pub tag_of : Hint → ℕ
tag_of e = kind_number e.kind + mark e.locked 8 + mark e.synthetic 16

-- ---- edges
-- the character height, the device height and the scale at a place
abbrev pub height_in : List ℤ → ℕ → Fixed
height_in lines i = from_bits (get_or lines i (pos 0))

abbrev pub device_in : List ℤ → ℕ → Fixed
device_in lines i = from_bits (get_or lines (96 + i) (pos 0))

abbrev pub scale_in : List ℤ → ℕ → Fixed
scale_in lines i = from_bits (get_or lines (192 + i) (pos 0))

-- the edge of a tag, a stem number, two heights and a scale
abbrev pub decoded : ℕ → ℕ → Fixed → Fixed → Fixed → Hint
decoded tag index h d s =
    record {
      kind = kind_in tag;
      locked = eqb (tag / 8 % 2) 1;
      synthetic = eqb (tag / 16 % 2) 1;
      index = index;
      cs_coord = h;
      ds_coord = d;
      scale = s;
    }

-- the edge at a place
unfoldable pub hint_in : List ℤ → List ℕ → ℕ → Hint
hint_in lines tags i =
    decoded (get_or tags i 0) (get_or tags (96 + i) 0) (height_in lines i) (device_in lines i) (scale_in lines i)

-- the edges at all places, and at the first n
unfoldable pub edges_in : List ℤ → List ℕ → List Hint
edges_in lines tags = tabulate (hint_in lines tags) max_hints

abbrev pub held : List ℤ → List ℕ → ℕ → List Hint
held lines tags n = take n (edges_in lines tags)

-- the lists of a map are as long as they should be
pub record Whole (lines : List ℤ) (tags : List ℕ) : Type 0 where
  pub all : length lines ≡ 288
  pub named : length tags ≡ 192

-- lists that hold an edge at each place
pub record Listed (es : List Hint) (lines : List ℤ) (tags : List ℕ) : Type 0 where
  pub whole : Whole lines tags
  pub edges : edges_in lines tags ≡ es

-- ---- edges written
-- a device height and a scale at place i
abbrev pub set_line : List ℤ → ℕ → Hint → List ℤ
set_line lines i e = set (set lines (96 + i) e.ds_coord.bits) (192 + i) e.scale.bits

-- three numbers at place i, and two
abbrev pub set_lines : List ℤ → ℕ → Fixed → Fixed → Fixed → List ℤ
set_lines lines i h d s = set (set (set lines i h.bits) (96 + i) d.bits) (192 + i) s.bits

abbrev pub set_tags : List ℕ → ℕ → ℕ → ℕ → List ℕ
set_tags tags i tag index = set (set tags i tag) (96 + i) index

-- an edge at place i
pub record Put (ls : List ℤ) (ts : List ℕ) (i : ℕ) (e : Hint) (ls' : List ℤ) (ts' : List ℕ) : Type 0 where
  pub lines : ls' ≡ set_lines ls i e.cs_coord e.ds_coord e.scale
  pub tags : ts' ≡ set_tags ts i (tag_of e) e.index

-- the edge at place i, at place j too
pub record Copied (ls : List ℤ) (ts : List ℕ) (i j : ℕ) (ls' : List ℤ) (ts' : List ℕ) : Type 0 where
  pub lines : ls' ≡ set_lines ls j (height_in ls i) (device_in ls i) (scale_in ls i)
  pub tags : ts' ≡ set_tags ts j (get_or ts i 0) (get_or ts (96 + i) 0)

-- ---- stems
-- the stem of a number that is above 0 if it is used, and of four heights
abbrev pub stem_by : ℤ → ℤ → ℤ → ℤ → ℤ → StemHint
stem_by u a b c d =
    record {
      is_used = less_f ZERO (from_bits u);
      min = from_bits a;
      max = from_bits b;
      ds_min = from_bits c;
      ds_max = from_bits d;
    }

-- the stem at a place
unfoldable pub stem_in : List ℤ → ℕ → StemHint
stem_in ns i =
    stem_by (get_or ns i (pos 0)) (get_or ns (96 + i) (pos 0)) (get_or ns (192 + i) (pos 0))
    (get_or ns (288 + i) (pos 0))
    (get_or ns (384 + i) (pos 0))

-- the stems at all places, of which so many are declared
unfoldable pub stems_in : List ℤ → ℕ → Stems
stems_in ns n = record { list = tabulate (stem_in ns) max_hints; count = n }

-- a list that holds a stem at each place
pub record ListedStems (ss : Stems) (ns : List ℤ) : Type 0 where
  pub long : length ns ≡ 480
  pub stems : stems_in ns ss.count ≡ ss

-- the number that stands for a truth
abbrev pub mark_if : Bool → Fixed
mark_if true = ONE
mark_if false = ZERO

-- a stem at place i
unfoldable pub set_stem : List ℤ → ℕ → StemHint → List ℤ
set_stem ns i s =
    set
    (set
    (set (set (set ns i (mark_if s.is_used).bits) (96 + i) s.min.bits) (192 + i) s.max.bits)
    (288 + i)
    s.ds_min.bits)
    (384 + i)
    s.ds_max.bits
