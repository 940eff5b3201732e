-- The two builds (01, "The map", Build).
use Rattle.std.specs.Prelude.{Bool, true, false, cond, List, [], ◌∷◌, get_or, set}
use Rattle.fixed.specs.Fixed.{ZERO}
use Rattle.stems.specs.declared.mask.HintMask.{HintMask}
use Rattle.stems.specs.declared.edge.StemHint.{StemHint}
use Rattle.stems.specs.declared.edge.Hint.{Hint}
use Rattle.stems.specs.Mask.{all_active}
use Rattle.stems.specs.Edge.{is_top}
use Rattle.zones.specs.declared.state.HintState.{HintState}
use Rattle.hintmap.specs.declared.map.HintMap.{HintMap}
use Rattle.hintmap.specs.Map.{new_map, valid_map, view}
use Rattle.adjust.specs.Second.{adjust_of}
use Rattle.stems.specs.declared.edge.Stems.{Stems}
use Rattle.build.specs.declared.map.Built.{Built}
use Rattle.build.specs.Ghosts.{em_boxed, baselined}
use Rattle.build.specs.Place.{Placed, declared_in, locked_turns, free_turns}

-- a new map, with the em box's ghosts where they are asked for
abbrev pub boxed_map : HintState → HintMap → Bool → HintMap
boxed_map st initial given = em_boxed st.do_em_box_hints initial given (new_map st.scale)

-- ---- the initial map: all stems that are locked or captured, then the baseline
-- no initial map is given, and the one that is named is not read
abbrev pub initial_placed : HintState → Stems → Placed
initial_placed st ss =
    locked_turns st (new_map st.scale) false 0 (declared_in ss)
    (record { map = boxed_map st (new_map st.scale) false; rest = all_active })

unfoldable pub initial_of : HintState → Stems → HintMap
initial_of st ss = valid_map (adjust_of (baselined (initial_placed st ss).map))

-- ---- other maps: active stems that are locked or captured, in order, then the active stems that are left, in order
abbrev pub locked_placed : HintState → HintMask → HintMap → Stems → Placed
locked_placed st mask initial ss =
    locked_turns st initial true 0 (declared_in ss) (record { map = boxed_map st initial true; rest = mask })

abbrev pub placed_of : HintState → HintMask → HintMap → Stems → HintMap
placed_of st mask initial ss = (free_turns st initial 0 (declared_in ss) (locked_placed st mask initial ss)).map

-- an edge's device height saved in its stem, which is then used
abbrev pub saved_stem : Hint → StemHint → StemHint
saved_stem e s =
    record {
      is_used = true;
      min = s.min;
      max = s.max;
      ds_min = cond (is_top e) s.ds_min e.ds_coord;
      ds_max = cond (is_top e) e.ds_coord s.ds_max;
    }

abbrev pub no_stem : StemHint
no_stem = record { is_used = false; min = ZERO; max = ZERO; ds_min = ZERO; ds_max = ZERO }

abbrev pub saved_by : Bool → Hint → Stems → Stems
saved_by true e ss = ss
saved_by false e ss =
    record { list = set ss.list e.index (saved_stem e (get_or ss.list e.index no_stem)); count = ss.count }

-- a synthetic edge has no stem
unfoldable pub saved_in : Hint → Stems → Stems
saved_in e ss = saved_by e.synthetic e ss

unfoldable pub saved_all : List Hint → Stems → Stems
saved_all [] ss = ss
saved_all (e ∷ es) ss = saved_all es (saved_in e ss)

-- the map, and the stems with the heights that it saves
abbrev pub built_with : HintMap → Stems → Built
built_with m ss = record { map = m; stems = saved_all (view m) ss }

unfoldable pub built_of : HintState → HintMask → HintMap → Stems → Built
built_of st mask initial ss = built_with (valid_map (adjust_of (placed_of st mask initial ss))) ss
