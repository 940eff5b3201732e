-- Zones as numbers in a list: how they lie there, what is read, and the state that they are of.
use Rattle.std.specs.Prelude.{◌≡◌, List, ℕ, ◌+◌, ℤ, pos, get_or, set}
use Rattle.fixed.specs.Fixed.{from_bits, ZERO, less_f}
use Rattle.stems.specs.Lists.{tabulate, mark_if}
use Rattle.zones.specs.declared.blues.BlueZone.{BlueZone}
use Rattle.zones.specs.declared.state.HintState.{HintState}
use Rattle.zones.specs.declared.state.Gauge.{Gauge}
use Rattle.zones.specs.Zones.{max_zones}

-- the zone of a mark and four edges
abbrev pub zone_by : ℤ → ℤ → ℤ → ℤ → ℤ → BlueZone
zone_by u a b c d =
    record {
      is_bottom = less_f ZERO (from_bits u);
      cs_bottom_edge = from_bits a;
      cs_top_edge = from_bits b;
      cs_flat_edge = from_bits c;
      ds_flat_edge = from_bits d;
    }

-- the zone at a place
unfoldable pub zone_in : List ℤ → ℕ → BlueZone
zone_in ns i =
    zone_by (get_or ns i (pos 0)) (get_or ns (12 + i) (pos 0)) (get_or ns (24 + i) (pos 0)) (get_or ns (36 + i) (pos 0))
    (get_or ns (48 + i) (pos 0))

-- the zones at all places
unfoldable pub zones_in : List ℤ → List BlueZone
zones_in ns = tabulate (zone_in ns) max_zones

-- a zone at place i
unfoldable pub set_zone : List ℤ → ℕ → BlueZone → List ℤ
set_zone ns i z =
    set
    (set
    (set (set (set ns i (mark_if z.is_bottom).bits) (12 + i) z.cs_bottom_edge.bits) (24 + i)
    z.cs_top_edge.bits)
    (36 + i)
    z.cs_flat_edge.bits)
    (48 + i)
    z.ds_flat_edge.bits

-- a state's numbers beside its zones
abbrev pub gauge_of : HintState → Gauge
gauge_of st =
    record {
      scale = st.scale;
      blue_scale = st.blue_scale;
      blue_shift = st.blue_shift;
      blue_fuzz = st.blue_fuzz;
      suppress_overshoot = st.suppress_overshoot;
      do_em_box_hints = st.do_em_box_hints;
      boost = st.boost;
      zone_count = st.zone_count;
    }

-- the state of such numbers and zones
abbrev pub state_by : Gauge → List BlueZone → HintState
state_by g zs =
    record {
      scale = g.scale;
      blue_scale = g.blue_scale;
      blue_shift = g.blue_shift;
      blue_fuzz = g.blue_fuzz;
      suppress_overshoot = g.suppress_overshoot;
      do_em_box_hints = g.do_em_box_hints;
      boost = g.boost;
      zones = zs;
      zone_count = g.zone_count;
    }

-- and of those at all places
abbrev pub state_in : Gauge → List ℤ → HintState
state_in g ns = state_by g (zones_in ns)

-- a list that holds the zones of a state
abbrev pub ListedZones : HintState → List ℤ → Type 0
ListedZones st ns = zones_in ns ≡ st.zones
