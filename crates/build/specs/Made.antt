-- What each part of a build makes of lent lists, in the words of the map and the stems that they hold.
use Rattle.std.specs.Prelude.{◌≡◌, Bool, true, List, ℕ, ◌<◌, ◌≤◌, ℤ, length}
use Rattle.fixed.specs.declared.Fixed.{Fixed}
use Rattle.stems.specs.declared.mask.HintMask.{HintMask}
use Rattle.stems.specs.declared.edge.StemHint.{StemHint}
use Rattle.stems.specs.declared.edge.Stems.{Stems}
use Rattle.stems.specs.Mask.{of_bytes, is_active}
use Rattle.stems.specs.Edge.{max_hints}
use Rattle.stems.specs.Lists.{held, Whole, stems_in}
use Rattle.zones.specs.declared.state.HintState.{HintState}
use Rattle.hintmap.specs.declared.map.HintMap.{HintMap}
use Rattle.hintmap.specs.Map.{new_map, valid_map}
use Rattle.hintmap.specs.Lent.{map_in, Lent, LinesOf}
pub use Rattle.adjust.specs.Adjusted.{NoteRoom}
use Rattle.build.specs.Ghosts.{em_boxed, uncovered, baselined}
use Rattle.build.specs.Place.{Placed, declared_in, locked_turn, free_turn, locked_turns, free_turns}
use Rattle.build.specs.Build.{saved_all, initial_of, built_of}

-- the map in lists, and the stems that are left
abbrev pub placed_in : List ℤ → List ℕ → ℕ → Fixed → List ℕ → Placed
placed_in ls ts n s rest = record { map = map_in ls ts n s; rest = of_bytes rest }

-- the em box in a new map: its ghosts are locked, so whatever initial map is given
pub record Boxed (wanted : Bool) (s : Fixed) (n : ℕ) (ls : List ℤ) (ts : List ℕ) : Type 0 where
  pub lent : Lent ls ts n
  pub map : (initial : HintMap) (given : Bool) → map_in ls ts n s ≡ em_boxed wanted initial given (new_map s)

-- whether the baseline is uncovered, whatever tags and scale
abbrev pub Uncovered : List ℤ → ℕ → Bool → Type 0
Uncovered ls n r = (ts : List ℕ) (s : Fixed) → r ≡ uncovered (map_in ls ts n s)

-- the baseline
pub record Baselined (ls : List ℤ) (ts : List ℕ) (n : ℕ) (s : Fixed) (n' : ℕ) (ls' : List ℤ) (ts' : List ℕ) : Type 0
  where
    pub lent : Lent ls' ts' n'
    pub map : map_in ls' ts' n' s ≡ baselined (map_in ls ts n s)

-- a stem that is there, and still to be placed
pub record Unplaced (rest : List ℕ) (i : ℕ) : Type 0 where
  pub there : i < max_hints
  pub active : is_active (of_bytes rest) i ≡ true

-- the turn of stem i in the first round: what is locked or captured stays where it is, so whatever
-- initial map is given
pub record LockedOne (st : HintState) (x : StemHint) (i : ℕ) (ls : List ℤ) (ts : List ℕ) (n : ℕ) (rest : List ℕ)
    (n' : ℕ) (ls' : List ℤ) (ts' rest' : List ℕ) : Type 0 where
  pub lent : Lent ls' ts' n'
  pub placed : (initial : HintMap) (given : Bool) → placed_in ls' ts' n' st.scale rest' ≡
      locked_turn st initial given (placed_in ls ts n st.scale rest) i x

-- the turn of an active one in the second, by the lines of an initial map
pub record FreedOne (s : Fixed) (x : StemHint) (i : ℕ) (ls : List ℤ) (ts : List ℕ) (n : ℕ) (base : List ℤ) (size : ℕ)
    (s₀ : Fixed) (n' : ℕ) (ls' : List ℤ) (ts' : List ℕ) : Type 0 where
  pub lent : Lent ls' ts' n'
  pub placed : (st : HintState) (initial : HintMap) (rest : List ℕ) → st.scale ≡ s → initial.scale ≡ s₀ →
      LinesOf initial base size → is_active (of_bytes rest) i ≡ true →
      placed_in ls' ts' n' s rest ≡ free_turn st initial (placed_in ls ts n s rest) i x

-- the first round, whatever initial map is given
pub record Locked (st : HintState) (ss : Stems) (ls : List ℤ) (ts : List ℕ) (n : ℕ) (rest : List ℕ) (n' : ℕ)
    (ls' : List ℤ) (ts' rest' : List ℕ) : Type 0 where
  pub lent : Lent ls' ts' n'
  pub placed : (initial : HintMap) (given : Bool) → placed_in ls' ts' n' st.scale rest' ≡
      locked_turns st initial given 0 (declared_in ss) (placed_in ls ts n st.scale rest)

-- the second, by the lines of an initial map
pub record Freed (s : Fixed) (ss : Stems) (ls : List ℤ) (ts : List ℕ) (n : ℕ) (rest : List ℕ) (base : List ℤ)
    (size : ℕ) (s₀ : Fixed) (n' : ℕ) (ls' : List ℤ) (ts' : List ℕ) : Type 0 where
  pub lent : Lent ls' ts' n'
  pub map : (st : HintState) (initial : HintMap) → st.scale ≡ s → initial.scale ≡ s₀ → LinesOf initial base size →
      map_in ls' ts' n' s ≡ (free_turns st initial 0 (declared_in ss) (placed_in ls ts n s rest)).map

-- as many stems are declared, and the same ones; those past them may differ
pub record SameDeclared (ss ss' : Stems) : Type 0 where
  pub count : ss.count ≡ ss'.count
  pub room : length ss.list ≡ length ss'.list
  pub declared : declared_in ss ≡ declared_in ss'

-- the heights of a map's edges, saved
pub record SavedIn (ns : List ℤ) (ls : List ℤ) (ts : List ℕ) (n : ℕ) (ns' : List ℤ) : Type 0 where
  pub long : length ns' ≡ 480
  pub stems : (count : ℕ) → stems_in ns' count ≡ saved_all (held ls ts n) (stems_in ns count)

-- the initial map
pub record MadeInitial (st : HintState) (ss : Stems) (n : ℕ) (ls : List ℤ) (ts : List ℕ) : Type 0 where
  pub lent : Lent ls ts n
  pub map : valid_map (map_in ls ts n st.scale) ≡ initial_of st ss

-- lists in which a map can be made
pub record Makable (ls : List ℤ) (ts : List ℕ) (ns : List ℤ) (size : ℕ) : Type 0 where
  pub whole : Whole ls ts
  pub long : length ns ≡ 480
  pub initial : size ≤ max_hints

-- every other map, and the stems after it
pub record MadeMap (st : HintState) (mask : HintMask) (ns : List ℤ) (count : ℕ) (base : List ℤ) (size : ℕ) (s₀ : Fixed)
    (n : ℕ) (ls : List ℤ) (ts : List ℕ) (ns' : List ℤ) : Type 0 where
  pub lent : Lent ls ts n
  pub long : length ns' ≡ 480
  pub built : (initial : HintMap) → initial.scale ≡ s₀ → LinesOf initial base size →
      record { map = valid_map (map_in ls ts n st.scale); stems = stems_in ns' count } ≡
      built_of st mask initial (stems_in ns count)
