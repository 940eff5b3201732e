-- How many words calls write is what the trail of the pen says, whatever the hints are (request 5).
-- Assumes nothing.
use mathlib.Core.Path.{◌≡◌, refl, sym, ap, ◌∙◌}
use mathlib.Core.List.{List, [], ◌∷◌}
use Prim.Native.Nat.{ℕ, ◌+◌, ◌*◌, ◌≤◌}
use native.Mathlib.Omega.{arith}
use lib.ListN.{length, length-append}
use Rattle.fixed.specs.declared.Fixed.{Fixed}
use Rattle.zones.specs.declared.state.HintState.{HintState}
use Rattle.hintmap.specs.declared.map.HintMap.{HintMap}
use Rattle.pen.specs.declared.strokes.Pen.{Pen}
use Rattle.pen.specs.declared.strokes.Path.{Path}
use Rattle.pen.specs.declared.strokes.Path.TheVariants.{Move, Line, Curve, Finish}
use Rattle.pen.specs.declared.counting.Trail.{Trail}
use Rattle.pen.specs.declared.counting.Counted.{Counted}
use Rattle.pen.specs.Counting.{trail_of, count_of}
use Rattle.pen.proofs.Counts.{tally, move-counted, line-counted, curve-counted, finish-counted, count-few}
use Rattle.hints.specs.declared.hints.Hints.{Hints}
use Rattle.hints.specs.declared.drawing.Drawing.{Drawing}
use Rattle.hints.specs.Path.{stroke_by}
use Rattle.hints.specs.Calls.{Call, stem, hint_mask, counter_mask, clear, close, draw, hints_of, stroke_of, next_of}
use Rattle.hints.specs.Calls.{words_for}
use Rattle.run.specs.Room.{words_along}
use Rattle.run.specs.Run.{Asked, steps_of}
use Rattle.run.specs.Counting.{count_for, count_along}

-- ---- a call
-- by whatever map its points are carried
stroke-tally : (m : HintMap) (s : Fixed) (pen : Pen) (path : Path) →
    tally (stroke_by m s pen path) ≡ count_of (trail_of pen) path
stroke-tally m s pen (Move p) = move-counted pen p _
stroke-tally m s pen (Line p) = line-counted pen p _
stroke-tally m s pen (Curve p q r) = curve-counted pen p q r _ _ _
stroke-tally m s pen Finish = finish-counted pen

module _ (m : HintMap) (s : Fixed) (pen : Pen) (path : Path) where
  pub stroke-words : length (stroke_by m s pen path).words ≡ (count_of (trail_of pen) path).words
  stroke-words = ap (λ (k : Counted). k.words) (stroke-tally m s pen path)

  pub stroke-trail : trail_of (stroke_by m s pen path).pen ≡ (count_of (trail_of pen) path).trail
  stroke-trail = ap (λ (k : Counted). k.trail) (stroke-tally m s pen path)

call-tally : (st : HintState) (h : Hints) (pen : Pen) (c : Call) →
    tally (stroke_of st h pen c) ≡ count_for (trail_of pen) c
call-tally st h pen (stem min max) = refl
call-tally st h pen (hint_mask m) = refl
call-tally st h pen (counter_mask m) = refl
call-tally st h pen clear = refl
call-tally st h pen close = refl
call-tally st h pen (draw p) = stroke-tally (hints_of st h (draw p)).map st.scale pen p

-- ---- calls
-- their words are as many as the trail says
pub counted : (st : HintState) (d : Drawing) (cs : List Asked) →
    length (words_along (steps_of st d cs)) ≡ count_along (trail_of d.pen) cs
unfolding steps_of count_along
counted st d [] = refl
counted st d (c ∷ cs) =
    let t = call-tally st d.hints d.pen c.call in
    let n = next_of st d c.call in
    length-append (words_for st d c.call) (words_along (steps_of st n cs)) ∙
    ap (λ (k : ℕ). length (words_for st d c.call) + k) (counted st n cs) ∙
    ap (λ (k : Counted). k.words + count_along k.trail cs) t

-- never by a map: whatever the states, for drawings with one pen
pub never-by-a-map : (st st' : HintState) (d d' : Drawing) (cs : List Asked) → d.pen ≡ d'.pen →
    length (words_along (steps_of st d cs)) ≡ length (words_along (steps_of st' d' cs))
never-by-a-map st st' d d' cs e =
    counted st d cs ∙ ap (λ (pen : Pen). count_along (trail_of pen) cs) e ∙ sym (counted st' d' cs)

-- at most 10 words a call
call-few : (t : Trail) (c : Call) → (count_for t c).words ≤ 10
call-few t (stem min max) = omega arith
call-few t (hint_mask m) = omega arith
call-few t (counter_mask m) = omega arith
call-few t clear = omega arith
call-few t close = omega arith
call-few t (draw p) = count-few t p

pub count-short : (t : Trail) (cs : List Asked) → count_along t cs ≤ 10 * length cs
unfolding count_along
count-short t [] = omega arith
count-short t (c ∷ cs) =
    omega (arith, call-few t c.call, count-short (count_for t c.call).trail cs)
