-- Every starred figure of 01 is what the definitions give: they are computed. Assumes nothing.
use mathlib.Core.Path.{refl}
use Rattle.adjust.specs.Adjust.{to_next, moves_of, room_up, room_down, choice_of, note_of, moved_hint, settle_of}
use Rattle.adjust.specs.Adjust.{rescaled_hint}
use Rattle.adjust.specs.Pass.{next_place, upper_of, noted_of, turn_of, pass_from, first_pass}
use Rattle.adjust.specs.Second.{lift_both, retry_of, second_pass, adjust_of}
use Rattle.build.specs.Build.{initial_of, saved_in, saved_all, built_of}
use Rattle.build.specs.Ghosts.{em_bottom, em_top, em_boxed, uncovered, baselined}
use Rattle.build.specs.Place.{prepared_of, locked_turn, free_turn, locked_turns, free_turns}
use Rattle.fixed.specs.Fixed.{add_f, sub_f, neg_f, abs_f, twice_f, mul_f, over_zero, quotient_of, div_f, mul_div_f}
use Rattle.fixed.specs.Fixed.{round_f, fract_f}
use Rattle.fixed.specs.Fixed.{half_f, midpoint_f, trunc_f, min_f, max_f}
use Rattle.fixed.specs.Integers.{low_bits, signed, wrap32, nearest}
use Rattle.hintmap.specs.Insert.{chosen, may_enter, bars, too_high, again, put_edges, outcome_of, insert_in}
use Rattle.hintmap.specs.Map.{leading, last_of, line, map_of, clear_ahead, clear_behind}
use Rattle.hintmap.specs.WholeStems.{Past, Made}
use Rattle.stems.specs.Edge.{shape_of, edge_of, setup_of}
use Rattle.stems.specs.Mask.{mask_of, is_active, cleared, same_bytes}
use Rattle.zones.specs.Capture.{holds, first_holding, bottom_goal, top_goal, capture_move, lifted, capture_of}
use Rattle.zones.specs.State.{em_box, clamped_scale, boost_of, state_of}
use Rattle.zones.specs.Zones.{sift, blues_zones, kept, greatest_from, nearer, nearest_from, nearest_of, first_too}
use Rattle.zones.specs.Zones.{moved_flat}
use Rattle.zones.specs.Zones.{device_flat, kept_in, read_in}
use Rattle.test_figures.specs.Starred.{rows, AllHold}

pub starred : AllHold rows
unfolding to_next moves_of room_up room_down choice_of note_of moved_hint settle_of rescaled_hint next_place upper_of
    noted_of
    turn_of pass_from first_pass lift_both retry_of second_pass adjust_of initial_of saved_in saved_all built_of
    em_bottom em_top
    em_boxed uncovered baselined prepared_of locked_turn free_turn locked_turns free_turns add_f sub_f neg_f abs_f
    twice_f mul_f
    over_zero quotient_of div_f mul_div_f round_f fract_f half_f midpoint_f trunc_f min_f max_f low_bits signed wrap32
    nearest
    chosen may_enter bars too_high again put_edges outcome_of insert_in leading last_of line map_of clear_ahead
    clear_behind
    Past Made shape_of edge_of setup_of mask_of is_active cleared same_bytes holds first_holding bottom_goal top_goal
    capture_move lifted capture_of em_box clamped_scale boost_of state_of sift blues_zones kept greatest_from nearer
    nearest_from nearest_of first_too moved_flat device_flat kept_in read_in
starred = (
  refl,
  (
    refl,
    (
      refl,
      (
        refl,
        (refl, (refl, (refl, (refl, (refl, (refl, (refl, (refl, (refl, (refl, (refl, tt))))))))))),
      ),
    ),
  ),
)
