-- The hints of a drawing (01, "Stems and masks", "The map").
use Rattle.std.specs.Prelude.{Bool, true, false, ◌&&◌, not, ◌+◌, ltb, set, replicate}
use Rattle.fixed.specs.declared.Fixed.{Fixed}
use Rattle.fixed.specs.Fixed.{ZERO, mul_f, trunc_f}
use Rattle.stems.specs.declared.mask.HintMask.{HintMask}
use Rattle.stems.specs.declared.edge.StemHint.{StemHint}
use Rattle.stems.specs.Mask.{all_active, same_mask}
use Rattle.zones.specs.declared.state.HintState.{HintState}
use Rattle.hintmap.specs.declared.map.HintMap.{HintMap}
use Rattle.hintmap.specs.Map.{new_map, invalid_map, view, map_of}
use Rattle.stems.specs.declared.edge.Stems.{Stems}
use Rattle.build.specs.declared.map.Built.{Built}
use Rattle.build.specs.Build.{initial_of, built_of}
use Rattle.pen.specs.declared.strokes.Point.{Point}
use Rattle.hints.specs.declared.hints.Hints.{Hints}
use Rattle.stems.specs.Edge.{max_hints}

abbrev pub unused_stem : Fixed → Fixed → StemHint
unused_stem min max = record { is_used = false; min = min; max = max; ds_min = ZERO; ds_max = ZERO }

-- no stems, a mask of all, and two maps with no edges
abbrev pub new_hints : Fixed → Hints
new_hints s =
    record {
      stems = record { list = replicate max_hints (unused_stem ZERO ZERO); count = 0 };
      mask = all_active;
      initial = new_map s;
      map = new_map s;
    }

-- ---- a stem
abbrev pub stem_in : Fixed → Fixed → Stems → Stems
stem_in min max ss = record { list = set ss.list ss.count (unused_stem min max); count = ss.count + 1 }

abbrev pub with_stems : Hints → Stems → Hints
with_stems h ss = record { stems = ss; mask = h.mask; initial = h.initial; map = h.map }

abbrev pub stem_by : Bool → Fixed → Fixed → Hints → Hints
stem_by true min max h = with_stems h (stem_in min max h.stems)
stem_by false min max h = h

-- taken unless the map is valid or there are 96
unfoldable pub with_stem : Fixed → Fixed → Hints → Hints
with_stem min max h = stem_by (not h.map.is_valid && ltb h.stems.count max_hints) min max h

-- ---- a mask: one that is the present one changes nothing, another makes the map invalid
abbrev pub mask_by : Bool → HintMask → Hints → Hints
mask_by true m h = h
mask_by false m h = record { stems = h.stems; mask = m; initial = h.initial; map = invalid_map h.map }

unfoldable pub with_mask : HintMask → Hints → Hints
with_mask m h = mask_by (same_mask m h.mask) m h

-- ---- maps: the initial one is made first, where it is invalid
abbrev pub initial_by : Bool → HintState → Hints → Hints
initial_by true st h = h
initial_by false st h = record { stems = h.stems; mask = h.mask; initial = initial_of st h.stems; map = h.map }

unfoldable pub with_initial : HintState → Hints → Hints
with_initial st h = initial_by h.initial.is_valid st h

abbrev pub built_from : HintState → HintMask → Hints → Built
built_from st m h = built_of st m h.initial h.stems

-- a counter mask builds a map that is thrown away, and so marks stems
unfoldable pub countered : HintState → HintMask → Hints → Hints
countered st m h = with_stems (with_initial st h) (built_from st m (with_initial st h)).stems

abbrev pub built_in : HintState → Hints → Hints
built_in st h =
    record {
      stems = (built_from st h.mask h).stems;
      mask = h.mask;
      initial = h.initial;
      map = (built_from st h.mask h).map;
    }

abbrev pub ready_by : Bool → HintState → Hints → Hints
ready_by true st h = h
ready_by false st h = built_in st (with_initial st h)

-- the current map is built from the present mask, where it is invalid
unfoldable pub ready_of : HintState → Hints → Hints
ready_of st h = ready_by h.map.is_valid st h

-- a point on the device: x by the scale, y by the map, the low 10 bits of both cleared
unfoldable pub device_point : HintMap → Fixed → Point → Point
device_point m s p = record { x = trunc_f (mul_f p.x s); y = trunc_f (map_of (view m) m.scale p.y) }
