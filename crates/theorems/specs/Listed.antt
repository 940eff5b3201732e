-- Request 2, as a reader has it: what the list of any map's records satisfies.
use Rattle.std.specs.Prelude.{◌≡◌, false, List, ℕ, ◌+◌, ◌*◌, ◌≤◌, ◌<◌, length, get_or, ◌≤ℤ◌}
use Rattle.stems.specs.declared.edge.Kind.{Kind}
use Rattle.stems.specs.declared.edge.Kind.TheVariants.{GhostBottom, GhostTop, PairBottom, PairTop}
use Rattle.stems.specs.Edge.{max_hints, no_hint, pair_k, pair_top_k}
use Rattle.hints.specs.declared.drawing.Drawing.{Drawing}
use Rattle.listing.specs.declared.record.EdgeRecord.{EdgeRecord}
use Rattle.listing.specs.Records.{record_of, records_of, count_of, summary_of}

-- the record at a place
abbrev pub nth : List EdgeRecord → ℕ → EdgeRecord
nth rs i = get_or rs i (record_of no_hint)

-- the kinds of edges that are there
pub data OneOfFour : Kind → Type 0 where
  ghost_bottom : OneOfFour GhostBottom
  ghost_top : OneOfFour GhostTop
  pair_bottom : OneOfFour PairBottom
  pair_top : OneOfFour PairTop

-- a pair's bottom at place i, and directly behind it the top of the same stem
pub record OwnTop (rs : List EdgeRecord) (i : ℕ) : Type 0 where
  pub there : i + 1 < length rs
  pub bottom : (nth rs i).kind ≡ PairBottom
  pub top : (nth rs (i + 1)).kind ≡ PairTop
  pub own : (nth rs i).stem ≡ (nth rs (i + 1)).stem

-- there are as many tops as pairs, which are counted by their bottoms, and every other edge is a
-- ghost
pub record Summed (rs : List EdgeRecord) : Type 0 where
  pub tops : count_of (λ (r : EdgeRecord). pair_top_k r.kind) rs ≡ (summary_of rs).pairs
  pub edges : (summary_of rs).edges ≡ 2 * (summary_of rs).pairs + (summary_of rs).ghosts

pub record InOrder (rs : List EdgeRecord) : Type 0 where
  -- at most 96 records
  pub few : length rs ≤ max_hints
  -- none of an absent edge
  pub kinds : (i : ℕ) → i < length rs → OneOfFour (nth rs i).kind
  -- never-falling character height
  pub rising : (i j : ℕ) → i ≤ j → j < length rs → (nth rs i).height.bits ≤ℤ (nth rs j).height.bits
  -- every pair's bottom is directly followed by its own top, and every top stands directly behind
  -- its own bottom
  pub followed : (i : ℕ) → i < length rs → (nth rs i).kind ≡ PairBottom → OwnTop rs i
  pub preceded : (j : ℕ) → j < length rs → (nth rs j).kind ≡ PairTop → (i : ℕ) × ((j ≡ i + 1) × OwnTop rs i)
  -- pairs are whole stems
  pub summed : Summed rs

-- ---- whose edges they are
-- one of so many stems', or, of a ghost alone, no stem's
pub data Source (stems : ℕ) (r : EdgeRecord) : Type 0 where
  stem : r.stem < stems → Source stems r
  none : r.stem ≡ max_hints → pair_k r.kind ≡ false → Source stems r

-- each record of a drawing's map names a stem that the drawing has, or 96, which no stem has
pub record Sourced (d : Drawing) : Type 0 where
  pub few : d.hints.stems.count ≤ max_hints
  pub each : (i : ℕ) → i < length (records_of d.hints.map) →
      Source d.hints.stems.count (nth (records_of d.hints.map) i)
