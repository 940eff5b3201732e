-- A map in lent lists of numbers: the edges that the first places hold, and what is done with them
-- in the words of the map that they are.
use Rattle.std.specs.Prelude.{◌≡◌, Bool, true, false, not, List, ◌++◌, ℕ, ◌+◌, ◌-◌, ◌≤◌, ◌<◌, ℤ, length, drop}
use Rattle.std.specs.Prelude.{replicate, ◌≤ℤ◌, Option}
use Rattle.fixed.specs.declared.Fixed.{Fixed}
use Rattle.stems.specs.declared.edge.Hint.{Hint}
use Rattle.stems.specs.Edge.{max_hints, no_hint}
use Rattle.stems.specs.Lists.{height_in, held, Whole}
use Rattle.hintmap.specs.declared.map.HintMap.{HintMap}
use Rattle.hintmap.specs.declared.insert.Edges.{Edges}
use Rattle.hintmap.specs.Map.{view, put_at, place_among, reach, map_of}
use Rattle.hintmap.specs.Insert.{first_edge, placed_by, outcome_of, insert_in}

-- the map that the first n places hold, to be built; every other place counts as unused
unfoldable pub map_in : List ℤ → List ℕ → ℕ → Fixed → HintMap
map_in ls ts n s =
    record { edges = held ls ts n ++ replicate (max_hints - n) no_hint; len = n; is_valid = false; scale = s }

-- the first n character heights never fall
abbrev pub Rises : List ℤ → ℕ → Type 0
Rises ls n = (i j : ℕ) → i ≤ j → j < n → (height_in ls i).bits ≤ℤ (height_in ls j).bits

-- where they are known to
abbrev pub Rising : Bool → List ℤ → ℕ → Type 0
Rising known ls n = known ≡ true → Rises ls n

-- whole lists, whose first n places hold edges in that order
pub record Lent (ls : List ℤ) (ts : List ℕ) (n : ℕ) : Type 0 where
  pub whole : Whole ls ts
  pub fits : n ≤ max_hints
  pub order : Rises ls n

-- lines that hold a map's edges, with tags that may be gone
pub record LinesOf (m : HintMap) (ls : List ℤ) (n : ℕ) : Type 0 where
  pub tags : List ℕ
  pub edges : view m ≡ held ls tags n

-- ---- mapping a height goes by lines alone, whatever the tags
abbrev pub Reaches : List ℤ → ℕ → Fixed → ℕ → Type 0
Reaches ls n h r = (ts : List ℕ) → r ≡ reach (drop 1 (held ls ts n)) h

abbrev pub Maps : List ℤ → ℕ → Fixed → Fixed → Fixed → Type 0
Maps ls n s h r = (ts : List ℕ) → r ≡ map_of (held ls ts n) s h

-- edges placed again by an initial map with its own scale, where the first is not locked
abbrev pub PlacedBy : List ℤ → ℕ → Fixed → Fixed → Edges → Edges → Type 0
PlacedBy ls n s₀ s e r = (ts : List ℕ) → r ≡ placed_by (not (first_edge e).locked) (held ls ts n) s₀ s e

-- ---- inserting edges as they are placed, so without an initial map, whatever the scale
abbrev pub Places : List ℤ → ℕ → Fixed → ℕ → Type 0
Places ls n h r = (ts : List ℕ) → r ≡ place_among (held ls ts n) h

abbrev pub Comes : List ℤ → List ℕ → ℕ → Edges → Option (ℕ × Edges) → Type 0
Comes ls ts n e r = (s : Fixed) (initial : HintMap) → r ≡ outcome_of (map_in ls ts n s) e initial false

-- edges put at a place among the first n
pub record Entered (ls : List ℤ) (ts : List ℕ) (n at : ℕ) (new : List Hint) (n' : ℕ) (ls' : List ℤ) (ts' : List ℕ) :
    Type 0 where
  pub whole : Whole ls' ts'
  pub longer : n' ≡ n + length new
  pub edges : held ls' ts' n' ≡ put_at (held ls ts n) at new

pub record Inserted (ls : List ℤ) (ts : List ℕ) (n : ℕ) (e : Edges) (n' : ℕ) (ls' : List ℤ) (ts' : List ℕ) :
    Type 0 where
  pub lent : Lent ls' ts' n'
  pub map : (s : Fixed) (initial : HintMap) → map_in ls' ts' n' s ≡ insert_in (map_in ls ts n s) e initial false
