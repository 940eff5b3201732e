-- Request 3, as a reader has it: two branches of the Rust that nothing enters. The code has neither
-- of them. Here they are said, with all mappings and all insertions where they would be entered.
use Rattle.std.specs.Prelude.{◌≡◌, Bool, true, false, cond, not, ◌&&◌, ◌||◌, List, [], ◌∷◌, ◌++◌, ℕ, zero, suc, eqb}
use Rattle.std.specs.Prelude.{drop, get_or}
use Rattle.fixed.specs.declared.Fixed.{Fixed}
use Rattle.fixed.specs.Fixed.{ZERO, mul_f, less_f}
use Rattle.stems.specs.declared.mask.HintMask.{HintMask}
use Rattle.stems.specs.declared.edge.StemHint.{StemHint}
use Rattle.stems.specs.declared.edge.Stems.{Stems}
use Rattle.stems.specs.declared.edge.Kind.TheVariants.{GhostBottom}
use Rattle.stems.specs.declared.edge.Side.TheVariants.{Bottom, Top}
use Rattle.stems.specs.declared.edge.Hint.{Hint}
use Rattle.stems.specs.Mask.{all_active, is_active}
use Rattle.stems.specs.Edge.{no_hint, is_valid, setup_of}
use Rattle.zones.specs.declared.state.HintState.{HintState}
use Rattle.hintmap.specs.declared.map.HintMap.{HintMap}
use Rattle.hintmap.specs.declared.insert.Edges.{Edges}
use Rattle.hintmap.specs.declared.insert.Edges.TheVariants.{One, Two}
use Rattle.hintmap.specs.Map.{new_map, view, reach, line, map_of}
use Rattle.hintmap.specs.Insert.{insert_in}
use Rattle.build.specs.Ghosts.{ghost_at, em_bottom, em_top, uncovered, baselined}
use Rattle.build.specs.Place.{declared_in, prepared_of}
use Rattle.build.specs.Build.{initial_placed, placed_of}
use Rattle.hints.specs.declared.hints.Hints.{Hints}
use Rattle.hints.specs.declared.drawing.Drawing.{Drawing}
use Rattle.hints.specs.Hints.{with_initial}
use Rattle.theorems.specs.Reached.{current_map}

-- ---- the walk down
-- where the walk up ends: from the first edge it goes past each next one at or below the height
abbrev pub up : List Hint → Fixed → ℕ
up es h = reach (drop 1 es) h

-- where the walk down from a place ends: it goes past each edge above the height, to the first
unfoldable pub down : List Hint → Fixed → ℕ → ℕ
down es h zero = zero
down es h (suc i) = cond (less_f h (get_or es (suc i) no_hint).cs_coord) (down es h i) (suc i)

-- a height mapped by the edge at a place, or, at the first edge and under it, by the map's scale
unfoldable pub mapped_at : List Hint → ℕ → Fixed → Fixed → Fixed
mapped_at [] k s h = mul_f h s
mapped_at (e ∷ es) k s h =
    cond (eqb k 0 && less_f h e.cs_coord) (line e s h)
    (line (get_or (e ∷ es) k no_hint) (get_or (e ∷ es) k no_hint).scale h)

-- at a mapping the walk down goes nowhere, and the height is mapped by the edge where both walks end
pub record NoWayBack (m : HintMap) (h : Fixed) : Type 0 where
  pub nowhere : down (view m) h (up (view m) h) ≡ up (view m) h
  pub device : map_of (view m) m.scale h ≡ mapped_at (view m) (down (view m) h (up (view m) h)) m.scale h

-- ---- an insertion with neither edge valid
-- what is handed over for an insertion
pub record Handed : Type 0 where
  pub bottom : Hint
  pub top : Hint

abbrev pub handed : Hint → Hint → Handed
handed b t = record { bottom = b; top = t }

-- at least one edge is valid
abbrev pub OneValid : Handed → Type 0
OneValid h = (is_valid h.bottom || is_valid h.top) ≡ true

unfoldable pub EachValid : List Handed → Type 0
EachValid [] = Unit {0}
EachValid (h ∷ hs) = OneValid h × EachValid hs

-- what the Rust puts in of two edges: where the bottom one is not valid the top one, whatever that is
abbrev pub taken_by : Bool → Bool → Hint → Hint → Edges
taken_by false v b t = One t
taken_by true false b t = One b
taken_by true true b t = Two b t

abbrev pub taken_of : Handed → Edges
taken_of h = taken_by (is_valid h.bottom) (is_valid h.top) h.bottom h.top

-- a map after some insertions, one after another
unfoldable pub inserted : HintMap → Bool → List Handed → HintMap → HintMap
inserted initial given [] m = m
inserted initial given (h ∷ hs) m = inserted initial given hs (insert_in m (taken_of h) initial given)

-- one map comes from another by some insertions, and at each of them at least one edge is valid
pub record Inserts (initial : HintMap) (given : Bool) (hs : List Handed) (from to : HintMap) : Type 0 where
  pub made : to ≡ inserted initial given hs from
  pub valid : EachValid hs

-- ---- the insertions of a build, in their order
abbrev pub handed_if : Bool → Handed → List Handed
handed_if b h = cond b (h ∷ []) []

-- the em box's two, where it is asked for
abbrev pub box_handed : HintState → List Handed
box_handed st =
    handed_if st.do_em_box_hints (handed (em_bottom st.scale) no_hint) ++
    handed_if st.do_em_box_hints (handed no_hint (em_top st.scale))

-- those of the active stems that are locked or captured, of which the first is number i
unfoldable pub locked_handed : HintState → HintMask → ℕ → List StemHint → List Handed
locked_handed st mask i [] = []
locked_handed st mask i (x ∷ xs) =
    handed_if (is_active mask i && (prepared_of st x i).captured)
    (handed (prepared_of st x i).bottom (prepared_of st x i).top) ++ locked_handed st mask (suc i) xs

-- those of the active stems that are left
unfoldable pub free_handed : HintState → HintMask → ℕ → List StemHint → List Handed
free_handed st mask i [] = []
free_handed st mask i (x ∷ xs) =
    handed_if (is_active mask i && not (prepared_of st x i).captured)
    (handed (setup_of x i st.scale Bottom) (setup_of x i st.scale Top)) ++
    free_handed st mask (suc i) xs

-- the baseline's, where no edge of a map covers it
abbrev pub base_handed : HintMap → List Handed
base_handed m = handed_if (uncovered m) (handed (ghost_at GhostBottom ZERO ZERO m.scale) no_hint)

-- what the build of the initial map adjusts comes from a new map by these
abbrev pub InitialInserts : HintState → Stems → Type 0
InitialInserts st ss =
    Inserts (new_map st.scale) false
    (box_handed st ++ (locked_handed st all_active 0 (declared_in ss) ++ base_handed (initial_placed st ss).map))
    (new_map st.scale) (baselined (initial_placed st ss).map)

-- and what the build of another map adjusts by these
abbrev pub BuiltInserts : HintState → HintMask → HintMap → Stems → Type 0
BuiltInserts st mask initial ss =
    Inserts initial true
    (box_handed st ++ (locked_handed st mask 0 (declared_in ss) ++ free_handed st mask 0 (declared_in ss)))
    (new_map st.scale) (placed_of st mask initial ss)

-- ---- request 3 of a drawing
-- its hints once the initial map is made
abbrev pub begun : HintState → Drawing → Hints
begun st d = with_initial st d.hints

pub record NeverEntered (st : HintState) (d : Drawing) : Type 0 where
  -- at every mapping the walk down goes nowhere: points are mapped by the current map, and edges
  -- that are put in by the initial map
  pub points : (h : Fixed) → NoWayBack (current_map st d) h
  pub edges : (h : Fixed) → NoWayBack (begun st d).initial h
  -- at every insertion of every build at least one edge is valid: of the initial map's, of the
  -- current map's, and of a counter mask's
  pub initial : InitialInserts st d.hints.stems
  pub current : BuiltInserts st d.hints.mask (begun st d).initial (begun st d).stems
  pub counter : (m : HintMask) → BuiltInserts st m (begun st d).initial (begun st d).stems
