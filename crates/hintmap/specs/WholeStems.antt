-- What holds of the edges of every map: they are single edges and whole stems, each wholly above
-- the one before. So none is absent, neighbours share a height only as bottom and top of one stem,
-- and every pair's bottom is directly followed by its own top.
use Rattle.std.specs.Prelude.{◌≡◌, true, false, List, [], ◌∷◌, ℕ, ◌≤◌, ◌<◌, length, get_or, ◌≤ℤ◌, ◌<ℤ◌}
use Rattle.fixed.specs.declared.Fixed.{Fixed}
use Rattle.stems.specs.declared.edge.Kind.TheVariants.{PairBottom, PairTop}
use Rattle.stems.specs.declared.edge.Hint.{Hint}
use Rattle.hintmap.specs.declared.insert.Edges.{Edges}
use Rattle.hintmap.specs.declared.insert.Edges.TheVariants.{One, Two}
use Rattle.stems.specs.Edge.{no_hint, is_valid, is_pair}

-- an edge's character height
abbrev pub height : Hint → Fixed
height x = x.cs_coord

-- an edge that is there, and is no part of a pair
pub record Single (x : Hint) : Type 0 where
  pub present : is_valid x ≡ true
  pub single : is_pair x ≡ false

-- the bottom and the top of one stem, neither of them synthetic
pub record Pair (b t : Hint) : Type 0 where
  pub bottom : b.kind ≡ PairBottom
  pub top : t.kind ≡ PairTop
  pub own : b.index ≡ t.index
  pub bottom_real : b.synthetic ≡ false
  pub top_real : t.synthetic ≡ false

-- the first edge, if there is one, is above z
unfoldable pub Past : Fixed → List Hint → Type 0
Past z [] = Unit {0}
Past z (x ∷ xs) = z.bits <ℤ (height x).bits

pub data WholeStems : List Hint → Type 0 where
  none : WholeStems []
  one : {x : Hint} {xs : List Hint} → Single x → Past (height x) xs → WholeStems xs → WholeStems (x ∷ xs)
  two : {b t : Hint} {xs : List Hint} → Pair b t → (height b).bits ≤ℤ (height t).bits → Past (height t) xs →
      WholeStems xs → WholeStems (b ∷ t ∷ xs)

-- what is to be put in is one single edge, or the two of one stem
unfoldable pub Made : Edges → Type 0
Made (One e) = Single e
Made (Two b t) = Pair b t

-- the edges stand in never-falling character height
abbrev pub Ascends : List Hint → Type 0
Ascends es = (i j : ℕ) → i ≤ j → j < length es → (height (get_or es i no_hint)).bits ≤ℤ
    (height (get_or es j no_hint)).bits

-- k is the place of the last edge at or below h
pub record Last (es : List Hint) (h : Fixed) (k : ℕ) : Type 0 where
  pub there : k < length es
  pub below : (height (get_or es k no_hint)).bits ≤ℤ h.bits
  pub last : (j : ℕ) → k < j → j < length es → h.bits <ℤ (height (get_or es j no_hint)).bits

-- every edge is above h
abbrev pub Above : List Hint → Fixed → Type 0
Above es h = (j : ℕ) → j < length es → h.bits <ℤ (height (get_or es j no_hint)).bits

-- two edges that differ on the device only, and two lists of such
pub record Like (x y : Hint) : Type 0 where
  pub kind : x.kind ≡ y.kind
  pub synthetic : x.synthetic ≡ y.synthetic
  pub index : x.index ≡ y.index
  pub level : height x ≡ height y

pub data Alike : List Hint → List Hint → Type 0 where
  nil : Alike [] []
  cons : {x y : Hint} {xs ys : List Hint} → Like x y → Alike xs ys → Alike (x ∷ xs) (y ∷ ys)
