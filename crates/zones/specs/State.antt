-- The state that parameters and a scale make (01, "Zones").
use Rattle.std.specs.Prelude.{Bool, true, false, cond, ◌&&◌, ◌||◌, List, [], map, eqb, leb, ℤ, pos, negsuc, neg_ℤ}
use Rattle.std.specs.Prelude.{length, get_or}
use Rattle.fixed.specs.declared.Fixed.{Fixed}
use Rattle.fixed.specs.Fixed.{from_bits, whole, ZERO, ONE, sub_f, div_f, mul_div_f, less_f, min_f}
use Rattle.zones.specs.declared.blues.BlueZone.{BlueZone}
use Rattle.zones.specs.declared.state.HintParams.{HintParams}
use Rattle.zones.specs.declared.state.HintState.{HintState}
use Rattle.zones.specs.Zones.{max_blues, no_blue, wholly_below, wholly_above, kept, greatest_from, moved_flat}
use Rattle.zones.specs.Zones.{device_flat, filled}

-- the em box, from −120 to 880
abbrev pub icf_bottom : Fixed
icf_bottom = whole (neg_ℤ (pos 120))

abbrev pub icf_top : Fixed
icf_top = whole (pos 880)

-- the boost at scale 0, and the most that it may be
abbrev pub full_boost : Fixed
full_boost = from_bits (pos 39322)

abbrev pub most_boost : Fixed
most_boost = from_bits (pos 32767)

-- ---- the counts
-- every list has at most seven pairs
unfoldable pub counts_fit : HintParams → Bool
counts_fit p =
    leb p.blues.count max_blues &&
    (leb p.other_blues.count max_blues &&
    (leb p.family_blues.count max_blues && leb p.family_other_blues.count max_blues))

-- ---- em-box hints
abbrev pub is_one : ℤ → Bool
is_one (pos n) = eqb n 1
is_one (negsuc n) = false

-- group 1 with no blues pairs, or with two, the first wholly below −120.0 and the second wholly
-- above 880.0
unfoldable pub em_box : HintParams → Bool
em_box p =
    is_one p.language_group && (eqb p.blues.count 0 || (eqb p.blues.count 2
    && (wholly_below icf_bottom (get_or p.blues.pairs 0 no_blue) &&
    wholly_above icf_top (get_or p.blues.pairs 1 no_blue))))

-- ---- step 3: blue scale is at most 1.0/(the greatest height), where that height is above 0
unfoldable pub clamped_scale : Fixed → Fixed → Fixed
clamped_scale bs g = cond (less_f ZERO g && less_f (div_f ONE g) bs) (div_f ONE g) bs

-- ---- step 4: overshoot is suppressed below the blue scale
-- with a boost of 39322 − 39322·scale/blue scale, at most 0x7FFF
abbrev pub suppresses : Fixed → Fixed → Bool
suppresses s bs = less_f s bs

unfoldable pub boost_of : Fixed → Fixed → Fixed
boost_of s bs = cond (suppresses s bs) (min_f (sub_f full_boost (mul_div_f full_boost s bs)) most_boost) ZERO

-- ---- the state
-- the zones that are kept, and the blue scale that they allow
abbrev pub kept_of : HintParams → List BlueZone
kept_of p = kept p.blues p.other_blues

abbrev pub blue_scale_of : HintParams → Fixed
blue_scale_of p = clamped_scale p.blue_scale (greatest_from ZERO (kept_of p))

-- steps 2 and 5, of one zone
abbrev pub finished : HintParams → Fixed → Fixed → BlueZone → BlueZone
finished p s boost z = device_flat s boost (moved_flat p.family_other_blues p.family_blues (div_f ONE s) z)

abbrev pub state_with : HintParams → Fixed → Fixed → Bool → Bool → Fixed → List BlueZone → HintState
state_with p s bs suppress em boost zs =
    record {
      scale = s;
      blue_scale = bs;
      blue_shift = p.blue_shift;
      blue_fuzz = p.blue_fuzz;
      suppress_overshoot = suppress;
      do_em_box_hints = em;
      boost = boost;
      zones = filled zs;
      zone_count = length zs;
    }

-- em-box hints: no zones, the blue scale unclamped, no suppression and no boost
abbrev pub state_by : Bool → HintParams → Fixed → HintState
state_by true p s = state_with p s p.blue_scale false true ZERO []
state_by false p s =
    state_with p s (blue_scale_of p) (suppresses s (blue_scale_of p)) false (boost_of s (blue_scale_of p))
    (map (finished p s (boost_of s (blue_scale_of p))) (kept_of p))

unfoldable pub state_of : HintParams → Fixed → HintState
state_of p s = state_by (em_box p) p s
