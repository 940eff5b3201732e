-- How many words a stroke writes, and the trail that it leaves, are what its call and the trail of
-- its pen say: no device point tells. Assumes nothing.
use mathlib.Core.Path.{◌≡◌, refl}
use mathlib.Core.Bool.{Bool, true, false, cond}
use mathlib.Core.List.{◌∷◌, [], ◌++◌}
use Prim.Native.Nat.{◌≤◌}
use native.Mathlib.Omega.{arith}
use lib.IntN.{pos}
use lib.ListN.{length, length-append}
use Rattle.std.proofs.Common.{Option, Some, None}
use Rattle.pen.specs.declared.strokes.Point.{Point}
use Rattle.pen.specs.declared.strokes.WaitingLine.{WaitingLine}
use Rattle.pen.specs.declared.strokes.Pen.{Pen}
use Rattle.pen.specs.declared.strokes.Path.{Path}
use Rattle.pen.specs.declared.strokes.Path.TheVariants.{Move, Line, Curve, Finish}
use Rattle.pen.specs.declared.counting.Trail.{Trail}
use Rattle.pen.specs.declared.counting.Counted.{Counted}
use Rattle.pen.specs.Strokes.{same_point, point_words, close_by, waiting_words, closing_words, flush_words, Stroke}
use Rattle.pen.specs.Strokes.{move_of, line_of, curve_of, finish_of}
use Rattle.pen.specs.Counting.{waiting_at, trail_of, flush_count, close_count, count_of}

-- ---- at most 10 words a call
flush-few : (waiting : Option Point) → flush_count waiting ≤ 3
flush-few None = omega arith
flush-few (Some p) = omega arith

close-few : (start waiting : Option Point) → close_count start waiting ≤ 4
close-few None waiting = omega arith
close-few (Some from) None = omega arith
close-few (Some from) (Some p) = pick (same_point p from)
  where
    pick : (b : Bool) → cond b 1 4 ≤ 4
    pick true = omega arith
    pick false = omega arith

pub count-few : (t : Trail) (path : Path) → (count_of t path).words ≤ 10
unfolding count_of
count-few t (Move p) = omega (arith, close-few t.start t.waiting)
count-few t (Line p) = omega (arith, flush-few t.waiting)
count-few t (Curve p q r) = omega (arith, flush-few t.waiting)
count-few t Finish = omega (arith, close-few t.start t.waiting)

-- ---- a flush and a close
flushed : (w : Option WaitingLine) → length (waiting_words w) ≡ flush_count (waiting_at w)
flushed None = refl
flushed (Some line) = refl

closed : (s : Option Point) (w : Option WaitingLine) → length (close_by s w) ≡ close_count s (waiting_at w)
closed None w = refl
closed (Some from) None = refl
closed (Some from) (Some line) = pick (same_point line.at from)
  where
    pick : (b : Bool) → length (cond b (pos 4 ∷ []) (pos 2 ∷ point_words line.device ++ pos 4 ∷ [])) ≡ cond b 1 4
    pick true = refl
    pick false = refl

module _ (pen : Pen) where
  -- the words of a flush, and of a close, by the trail of the pen
  pub flush_counted : length (flush_words pen) ≡ flush_count (trail_of pen).waiting
  unfolding flush_words
  flush_counted = flushed pen.waiting

  pub close_counted : length (closing_words pen) ≡ close_count (trail_of pen).start (trail_of pen).waiting
  unfolding closing_words
  close_counted = closed pen.start pen.waiting

-- ---- a stroke
-- the trail that it leaves, and the number of its words
abbrev pub tally : Stroke → Counted
tally t = record { trail = trail_of t.pen; words = length t.words }

module _ (pen : Pen) where
  pub move-counted : (at device : Point) → tally (move_of pen at device) ≡ count_of (trail_of pen) (Move at)
  unfolding move_of closing_words count_of
  move-counted at device = rw (length-append, closed)

  pub line-counted : (at device : Point) → tally (line_of pen at device) ≡ count_of (trail_of pen) (Line at)
  unfolding line_of flush_words count_of
  line-counted at device = rw flushed

  pub curve-counted : (p q r first second end : Point) →
      tally (curve_of pen first second end) ≡ count_of (trail_of pen) (Curve p q r)
  unfolding curve_of flush_words count_of
  curve-counted p q r first second end = rw (length-append, flushed)

  pub finish-counted : tally (finish_of pen) ≡ count_of (trail_of pen) Finish
  unfolding finish_of closing_words count_of
  finish-counted = rw (length-append, closed)
