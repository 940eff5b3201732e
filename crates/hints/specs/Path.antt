-- A path call on a map and a pen (01, "Path records"): its stroke.
use Rattle.std.specs.Prelude.{◌≡◌, Bool, true, false, List, ℕ, ℤ}
use Rattle.fixed.specs.declared.Fixed.{Fixed}
use Rattle.hintmap.specs.declared.map.HintMap.{HintMap}
use Rattle.hintmap.specs.Lent.{LinesOf}
use Rattle.pen.specs.declared.strokes.Point.{Point}
use Rattle.pen.specs.declared.drawn.Drawn.{Drawn}
use Rattle.pen.specs.Drawn.{Drew}
use Rattle.pen.specs.declared.strokes.Pen.{Pen}
use Rattle.pen.specs.Strokes.{Stroke, move_of, line_of, curve_of, finish_of}
use Rattle.pen.specs.declared.strokes.Path.{Path}
use Rattle.pen.specs.declared.strokes.Path.TheVariants.{Move, Line, Curve, Finish}
use Rattle.hints.specs.Hints.{device_point}

-- whether a call has points, which the current map carries
abbrev pub has_point : Path → Bool
has_point (Move p) = true
has_point (Line p) = true
has_point (Curve p q r) = true
has_point Finish = false

-- the stroke of a call, its points carried by a map
abbrev pub stroke_by : HintMap → Fixed → Pen → Path → Stroke
stroke_by m s pen (Move p) = move_of pen p (device_point m s p)
stroke_by m s pen (Line p) = line_of pen p (device_point m s p)
stroke_by m s pen (Curve p q r) = curve_of pen (device_point m s p) (device_point m s q) (device_point m s r)
stroke_by m s pen Finish = finish_of pen

-- ---- by the lines of a map
-- a point carried by the lines of whatever map they are of
abbrev pub PlacesBy : List ℤ → ℕ → Fixed → Fixed → Point → Point → Type 0
PlacesBy ls n s₀ s p r = (m : HintMap) → m.scale ≡ s₀ → LinesOf m ls n → r ≡ device_point m s p

-- a call drawn by them
abbrev pub DrawsBy : List ℤ → ℕ → Fixed → Fixed → Pen → Path → List ℤ → Drawn → List ℤ → Type 0
DrawsBy ls n s₀ s pen path out said left =
    (m : HintMap) → m.scale ≡ s₀ → LinesOf m ls n → Drew (stroke_by m s pen path) pen out said left
