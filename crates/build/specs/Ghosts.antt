-- The edges that no stem has (01, "The map", Build): the em box and the baseline.
use Rattle.std.specs.Prelude.{Bool, true, false, ◌||◌, ◌-◌, eqb, pos, ◌+ℤ◌, ◌-ℤ◌, get_or}
use Rattle.fixed.specs.declared.Fixed.{Fixed}
use Rattle.fixed.specs.Fixed.{from_bits, ZERO, HALF, add_f, sub_f, mul_f, round_f, less_f}
use Rattle.stems.specs.declared.edge.Kind.{Kind}
use Rattle.stems.specs.declared.edge.Kind.TheVariants.{GhostBottom, GhostTop}
use Rattle.stems.specs.declared.edge.Hint.{Hint}
use Rattle.stems.specs.Edge.{no_hint}
use Rattle.hintmap.specs.declared.map.HintMap.{HintMap}
use Rattle.hintmap.specs.declared.insert.Edges.TheVariants.{One}
use Rattle.hintmap.specs.Insert.{insert_in}
use Rattle.zones.specs.State.{icf_bottom, icf_top}

-- a locked, synthetic edge
abbrev pub ghost_at : Kind → Fixed → Fixed → Fixed → Hint
ghost_at k h d s =
    record {
      kind = k;
      locked = true;
      synthetic = true;
      index = 0;
      cs_coord = h;
      ds_coord = d;
      scale = s;
    }

-- the em box: at −120.0 less a bit and at 880.0 and a bit, each rounded on the device and half a
-- pixel further out
abbrev pub box_bottom : Fixed
box_bottom = from_bits (icf_bottom.bits -ℤ pos 1)

abbrev pub box_top : Fixed
box_top = from_bits (icf_top.bits +ℤ pos 1)

unfoldable pub em_bottom : Fixed → Hint
em_bottom s = ghost_at GhostBottom box_bottom (sub_f (round_f (mul_f box_bottom s)) HALF) s

unfoldable pub em_top : Fixed → Hint
em_top s = ghost_at GhostTop box_top (add_f (round_f (mul_f box_top s)) HALF) s

abbrev pub boxed_by : HintMap → Bool → HintMap → HintMap
boxed_by initial given m =
    insert_in (insert_in m (One (em_bottom m.scale)) initial given) (One (em_top m.scale)) initial given

-- both, bottom first, where em-box hints are asked for
unfoldable pub em_boxed : Bool → HintMap → Bool → HintMap → HintMap
em_boxed true initial given m = boxed_by initial given m
em_boxed false initial given m = m

-- no edge, or the first above 0, or the last below it
unfoldable pub uncovered : HintMap → Bool
uncovered m =
    eqb m.len 0 || (less_f ZERO (get_or m.edges 0 no_hint).cs_coord ||
    less_f (get_or m.edges (m.len - 1) no_hint).cs_coord ZERO)

-- no initial map is given, and the one that is named is not read
abbrev pub baseline_by : Bool → HintMap → HintMap
baseline_by true m = insert_in m (One (ghost_at GhostBottom ZERO ZERO m.scale)) m false
baseline_by false m = m

-- a bottom ghost at height 0 and device 0 where no edge covers the baseline
unfoldable pub baselined : HintMap → HintMap
baselined m = baseline_by (uncovered m) m
