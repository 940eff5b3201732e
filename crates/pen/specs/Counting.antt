-- How many words a call writes (request 5): by its kind and by character points alone, never by a
-- map. A line waits, and closing drops it where its character point is the start.
use Rattle.std.specs.Prelude.{cond, ℕ, ◌+◌, Option, Some, None}
use Rattle.pen.specs.declared.strokes.Path.{Path}
use Rattle.pen.specs.declared.strokes.Path.TheVariants.{Move, Line, Curve, Finish}
use Rattle.pen.specs.declared.strokes.Point.{Point}
use Rattle.pen.specs.declared.strokes.WaitingLine.{WaitingLine}
use Rattle.pen.specs.declared.strokes.Pen.{Pen}
use Rattle.pen.specs.declared.counting.Trail.{Trail}
use Rattle.pen.specs.declared.counting.Counted.{Counted}
use Rattle.pen.specs.Strokes.{same_point}

abbrev pub new_trail : Trail
new_trail = record { start = None; waiting = None }

-- the character point of a line that waits, and so the trail of a pen
abbrev pub waiting_at : Option WaitingLine → Option Point
waiting_at None = None
waiting_at (Some line) = Some line.at

abbrev pub trail_of : Pen → Trail
trail_of pen = record { start = pen.start; waiting = waiting_at pen.waiting }

-- the words of the line that waits
abbrev pub flush_count : Option Point → ℕ
flush_count None = 0
flush_count (Some p) = 3

-- and those of closing
abbrev pub close_count : Option Point → Option Point → ℕ
close_count None waiting = 0
close_count (Some from) None = 1
close_count (Some from) (Some p) = cond (same_point p from) 1 4

abbrev pub counted : Option Point → Option Point → ℕ → Counted
counted start waiting n = record { trail = record { start = start; waiting = waiting }; words = n }

-- what a call makes of the trail, and how many words it writes
unfoldable pub count_of : Trail → Path → Counted
count_of t (Move p) = counted (Some p) None (close_count t.start t.waiting + 3)
count_of t (Line p) = counted t.start (Some p) (flush_count t.waiting)
count_of t (Curve p q r) = counted t.start None (flush_count t.waiting + 7)
count_of t Finish = counted None None (close_count t.start t.waiting + 1)
