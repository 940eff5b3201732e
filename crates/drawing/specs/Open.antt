-- Opening a drawing without a script (01, after its table).
use Rattle.std.specs.Prelude.{◌≡◌, Bool, true, false, ℕ, pos, replicate, Result, Ok, Err}
use Rattle.fixed.specs.declared.Fixed.{Fixed}
use Rattle.fixed.specs.Fixed.{from_bits, ZERO, ONE, less_f}
use Rattle.zones.specs.declared.state.HintParams.{HintParams}
use Rattle.zones.specs.declared.state.HintState.{HintState}
use Rattle.zones.specs.Zones.{max_zones, no_zone}
use Rattle.zones.specs.State.{counts_fit, state_of}
use Rattle.drawing.specs.declared.opening.OpenRefusal.{OpenRefusal}
use Rattle.drawing.specs.declared.opening.OpenRefusal.TheVariants.{BadScale, BadBlues}
use Rattle.drawing.specs.declared.opening.Opened.{Opened}
use Rattle.hints.specs.Calls.{new_drawing}

-- scale 1.0, all else 0
abbrev pub refused_state : HintState
refused_state =
    record {
      scale = ONE;
      blue_scale = ZERO;
      blue_shift = ZERO;
      blue_fuzz = ZERO;
      suppress_overshoot = false;
      do_em_box_hints = false;
      boost = ZERO;
      zones = replicate max_zones no_zone;
      zone_count = 0;
    }

abbrev pub refused_by : OpenRefusal → Opened
refused_by e = record { answer = Err e; state = refused_state; drawing = new_drawing ONE }

-- the scale is refused first, then the counts
abbrev pub open_by : Bool → Bool → HintParams → Fixed → Opened
open_by true fit p s = refused_by BadScale
open_by false false p s = refused_by BadBlues
open_by false true p s = record { answer = Ok tt; state = state_of p s; drawing = new_drawing s }

unfoldable pub open_of : HintParams → Fixed → Opened
open_of p s = open_by (less_f s (from_bits (pos 1))) (counts_fit p) p s

-- ---- the answer
-- 01's number: 0 is OK, 2 BAD_SCALE, 3 BAD_BLUES
abbrev pub open_number : Result (Unit {0}) OpenRefusal → ℕ
open_number (Ok done) = 0
open_number (Err BadScale) = 2
open_number (Err BadBlues) = 3

-- 01's place
abbrev pub open_place : Result (Unit {0}) OpenRefusal → ℕ
open_place a = 0

-- the outcome of an opening: 01's number and place, the zones, and the drawing beside them
pub record Opens (o said : Opened) : Type 0 where
  pub number : open_number said.answer ≡ open_number o.answer
  pub place : open_place said.answer ≡ 0
  pub state : said.state ≡ o.state
  pub drawing : said.drawing ≡ o.drawing
