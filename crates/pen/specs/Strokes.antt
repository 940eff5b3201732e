-- The strokes of a pen (01, "Path records"): what each makes of start point and waiting line, and
-- the words that it writes.
use Rattle.std.specs.Prelude.{Bool, cond, ◌&&◌, List, [], ◌∷◌, ◌++◌, ℤ, pos, Option, Some, None}
use Rattle.fixed.specs.Fixed.{same_f}
use Rattle.pen.specs.declared.strokes.Point.{Point}
use Rattle.pen.specs.declared.strokes.WaitingLine.{WaitingLine}
use Rattle.pen.specs.declared.strokes.Pen.{Pen}

-- a line that waits, by both its points
abbrev pub waiting_line : Point → Point → Option WaitingLine
waiting_line at device = Some (record { at = at; device = device })

abbrev pub new_pen : Pen
new_pen = record { start = None; waiting = None }

abbrev pub same_point : Point → Point → Bool
same_point p q = same_f p.x q.x && same_f p.y q.y

-- a point's two words
abbrev pub point_words : Point → List ℤ
point_words p = p.x.bits ∷ p.y.bits ∷ []

-- closing: with a start, the waiting line unless its character point is the start, then a close;
-- without one, nothing
abbrev pub close_by : Option Point → Option WaitingLine → List ℤ
close_by None w = []
close_by (Some from) None = pos 4 ∷ []
close_by (Some from) (Some line) =
    cond (same_point line.at from) (pos 4 ∷ []) (pos 2 ∷ point_words line.device ++ pos 4 ∷ [])

unfoldable pub closing_words : Pen → List ℤ
closing_words pen = close_by pen.start pen.waiting

-- the waiting line
abbrev pub waiting_words : Option WaitingLine → List ℤ
waiting_words None = []
waiting_words (Some line) = pos 2 ∷ point_words line.device

unfoldable pub flush_words : Pen → List ℤ
flush_words pen = waiting_words pen.waiting

-- what a stroke makes of the pen, and the words that it writes
pub record Stroke : Type 0 where
  pub pen : Pen
  pub words : List ℤ

abbrev pub stroke : Option Point → Option WaitingLine → List ℤ → Stroke
stroke s w ws = record { pen = record { start = s; waiting = w }; words = ws }

-- a move closes first
unfoldable pub move_of : Pen → Point → Point → Stroke
move_of pen at device = stroke (Some at) None (closing_words pen ++ pos 1 ∷ point_words device)

-- a line waits, and the one that waited is written
unfoldable pub line_of : Pen → Point → Point → Stroke
line_of pen at device = stroke pen.start (waiting_line at device) (flush_words pen)

unfoldable pub curve_of : Pen → Point → Point → Point → Stroke
curve_of pen first second end =
    stroke pen.start None (flush_words pen ++ (pos 3 ∷ point_words first ++ point_words second ++ point_words end))

-- finish closes first
unfoldable pub finish_of : Pen → Stroke
finish_of pen = stroke None None (closing_words pen ++ pos 5 ∷ [])
