-- A drawing and the calls on it (01, "Path records"): a pure step, which room commits or not.
use Rattle.std.specs.Prelude.{Bool, true, false, List, [], ℤ}
use Rattle.fixed.specs.declared.Fixed.{Fixed}
use Rattle.stems.specs.declared.mask.HintMask.{HintMask}
use Rattle.zones.specs.declared.state.HintState.{HintState}
use Rattle.pen.specs.declared.strokes.Path.{Path}
use Rattle.pen.specs.declared.strokes.Pen.{Pen}
use Rattle.pen.specs.Strokes.{Stroke, new_pen}
use Rattle.hints.specs.declared.hints.Hints.{Hints}
use Rattle.hints.specs.declared.drawing.Drawing.{Drawing}
use Rattle.hints.specs.Hints.{new_hints, with_stem, with_mask, countered, ready_of}
use Rattle.hints.specs.Path.{has_point, stroke_by}

-- no stems, and no path
abbrev pub new_drawing : Fixed → Drawing
new_drawing s = record { hints = new_hints s; pen = new_pen }

-- ---- what a drawing is asked
pub data Call : Type 0 where
  stem : Fixed → Fixed → Call
  hint_mask : HintMask → Call
  counter_mask : HintMask → Call
  clear : Call
  close : Call
  draw : Path → Call

-- ---- the step
-- a call with a point has the current map built first
abbrev pub ready_for : Bool → HintState → Hints → Hints
ready_for true st h = ready_of st h
ready_for false st h = h

-- the hints that a call leaves
abbrev pub hints_of : HintState → Hints → Call → Hints
hints_of st h (stem min max) = with_stem min max h
hints_of st h (hint_mask m) = with_mask m h
hints_of st h (counter_mask m) = countered st m h
hints_of st h clear = new_hints st.scale
hints_of st h close = h
hints_of st h (draw p) = ready_for (has_point p) st h

abbrev pub still : Pen → Stroke
still pen = record { pen = pen; words = [] }

-- the stroke of a call; one that is not drawn leaves the pen as it is
abbrev pub stroke_of : HintState → Hints → Pen → Call → Stroke
stroke_of st h pen (stem min max) = still pen
stroke_of st h pen (hint_mask m) = still pen
stroke_of st h pen (counter_mask m) = still pen
stroke_of st h pen clear = still pen
stroke_of st h pen close = still pen
stroke_of st h pen (draw p) = stroke_by (hints_of st h (draw p)).map st.scale pen p

-- the drawing after a call that fits, and the words that it writes
abbrev pub next_of : HintState → Drawing → Call → Drawing
next_of st d c = record { hints = hints_of st d.hints c; pen = (stroke_of st d.hints d.pen c).pen }

abbrev pub words_for : HintState → Drawing → Call → List ℤ
words_for st d c = (stroke_of st d.hints d.pen c).words

-- ---- room
-- with room for its words a call is done, and else the drawing is as it was
abbrev pub room_by : Bool → HintState → Drawing → Call → Drawing
room_by true st d c = next_of st d c
room_by false st d c = d
