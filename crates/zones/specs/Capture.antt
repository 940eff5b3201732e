-- Capture (01, "Zones", last paragraph).
use Rattle.std.specs.Prelude.{Bool, true, false, cond, ◌&&◌, List, [], ◌∷◌, take, Option, Some, None}
use Rattle.fixed.specs.declared.Fixed.{Fixed}
use Rattle.fixed.specs.Fixed.{ONE, add_f, sub_f, round_f, at_most_f, min_f, max_f}
use Rattle.stems.specs.declared.edge.Hint.{Hint}
use Rattle.stems.specs.Edge.{is_valid, is_bottom, is_top, locked_at}
use Rattle.zones.specs.declared.blues.BlueZone.{BlueZone}
use Rattle.zones.specs.declared.state.HintState.{HintState}
use Rattle.zones.specs.declared.capture.Captured.{Captured}

-- a height between zone bottom − fuzz and zone top + fuzz, ends included
abbrev pub within : Fixed → BlueZone → Fixed → Bool
within fuzz z h = at_most_f (sub_f z.cs_bottom_edge fuzz) h && at_most_f h (add_f z.cs_top_edge fuzz)

-- a bottom zone holds the stem's bottom edge, a top zone its top edge
unfoldable pub holds : Fixed → Hint → Hint → BlueZone → Bool
holds fuzz b t z =
    cond z.is_bottom (is_bottom b && within fuzz z b.cs_coord) (is_top t && within fuzz z t.cs_coord)

-- the first zone that holds
unfoldable pub first_holding : Fixed → Hint → Hint → List BlueZone → Option BlueZone
first_holding fuzz b t [] = None
first_holding fuzz b t (z ∷ zs) = cond (holds fuzz b t z) (Some z) (first_holding fuzz b t zs)

-- where a held bottom edge goes: with suppression to the device flat edge; else it rounds, and
-- where it lies at least blue shift under the zone's top it goes no higher than device flat − 1.0
unfoldable pub bottom_goal : HintState → BlueZone → Hint → Fixed
bottom_goal st z e =
    cond st.suppress_overshoot z.ds_flat_edge
    (cond (at_most_f st.blue_shift (sub_f z.cs_top_edge e.cs_coord))
    (min_f (round_f e.ds_coord) (sub_f z.ds_flat_edge ONE))
    (round_f e.ds_coord))

-- mirrored for a top edge, measured from the zone's bottom
unfoldable pub top_goal : HintState → BlueZone → Hint → Fixed
top_goal st z e =
    cond st.suppress_overshoot z.ds_flat_edge
    (cond (at_most_f st.blue_shift (sub_f e.cs_coord z.cs_bottom_edge))
    (max_f (round_f e.ds_coord) (add_f z.ds_flat_edge ONE))
    (round_f e.ds_coord))

-- the move of the held edge
unfoldable pub capture_move : HintState → BlueZone → Hint → Hint → Fixed
capture_move st z b t =
    cond z.is_bottom (sub_f (bottom_goal st z b) b.ds_coord) (sub_f (top_goal st z t) t.ds_coord)

-- a valid edge moved and locked
unfoldable pub lifted : Hint → Fixed → Hint
lifted e by = cond (is_valid e) (locked_at e (add_f e.ds_coord by)) e

-- both valid edges move alike
abbrev pub captured_by : Option BlueZone → HintState → Hint → Hint → Captured
captured_by None st b t = record { captured = false; bottom = b; top = t }
captured_by (Some z) st b t =
    record { captured = true; bottom = lifted b (capture_move st z b t); top = lifted t (capture_move st z b t) }

unfoldable pub capture_of : HintState → Hint → Hint → Captured
capture_of st b t = captured_by (first_holding st.blue_fuzz b t (take st.zone_count st.zones)) st b t
