-- Where the maps and the waiting line of a drawing come from: a call makes them of the drawing that
-- it is made on, or leaves them. Assumes nothing.
use mathlib.Core.Path.{◌≡◌, refl, sym, ap, ◌∙◌}
use mathlib.Core.Bool.{Bool, true, false, true≢false, ◌&&◌, not}
use lib.Dec.{ltb}
use Rattle.std.proofs.Common.{Option, Some, None}
use Rattle.fixed.specs.declared.Fixed.{Fixed}
use Rattle.stems.specs.declared.mask.HintMask.{HintMask}
use Rattle.stems.specs.Mask.{same_mask}
use Rattle.zones.specs.declared.state.HintState.{HintState}
use Rattle.hintmap.specs.declared.map.HintMap.{HintMap}
use Rattle.build.proofs.Sound.{initial-valid}
use Rattle.pen.specs.declared.strokes.Point.{Point}
use Rattle.pen.specs.declared.strokes.Pen.{Pen}
use Rattle.pen.specs.declared.strokes.WaitingLine.{WaitingLine}
use Rattle.pen.specs.Strokes.{waiting_line, move_of, line_of, curve_of, finish_of}
use Rattle.hints.specs.declared.hints.Hints.{Hints}
use Rattle.pen.specs.declared.strokes.Path.{Path}
use Rattle.pen.specs.declared.strokes.Path.TheVariants.{Move, Line, Curve, Finish}
use Rattle.hints.specs.Hints.{stem_by, with_stem, mask_by, with_mask, initial_by, with_initial, countered, ready_by}
use Rattle.hints.specs.Hints.{ready_of}
use Rattle.hints.specs.Hints.{device_point}
use Rattle.hints.specs.Path.{has_point}
use Rattle.hints.specs.declared.drawing.Drawing.{Drawing}
use Rattle.hints.specs.Calls.{Call, stem, hint_mask, counter_mask, clear, close, draw, ready_for, stroke_of, next_of}
use Rattle.hints.specs.Calls.{room_by}
use Rattle.hints.specs.Calls.{new_drawing}
use Rattle.theorems.specs.Reached.{InitialMade, MapMade, carried_point, Pointed, LineMade}

pub record Made (Was : Drawing → Type 0) (st : HintState) (d : Drawing) : Type 0 where
  pub initial : d.hints.initial.is_valid ≡ true → InitialMade Was st d
  pub map : d.hints.map.is_valid ≡ true → MapMade Was st d
  pub waiting : (at device : Point) → d.pen.waiting ≡ waiting_line at device → LineMade Was st at device

-- what is invalid is not valid
pub never : {A : Type 0} → false ≡ true → A
never e = absurd (true≢false (sym e))

no_line : {A : Type 0} (at device : Point) → None ≡ waiting_line at device → A
no_line at device e = absurd (true≢false (ap is_absent e))
  where
    is_absent : Option WaitingLine → Bool
    is_absent None = true
    is_absent (Some line) = false

-- the line that waits, or one from a point to itself
abbrev line_in : Point → Option WaitingLine → WaitingLine
line_in p None = record { at = p; device = p }
line_in p (Some line) = line

-- a new drawing has none
pub made-new : (Was : Drawing → Type 0) (st : HintState) (s : Fixed) → Made Was st (new_drawing s)
made-new Was st s = record { initial = never; map = never; waiting = λ at device e. no_line at device e }

-- an initial map that is made if there is none is valid
pub with-initial-valid : (st : HintState) (h : Hints) → (with_initial st h).initial.is_valid ≡ true
unfolding with_initial
with-initial-valid st h = go h.initial.is_valid refl
  where
    go : (b : Bool) → h.initial.is_valid ≡ b → (initial_by b st h).initial.is_valid ≡ true
    go true e = e
    go false e = initial-valid st h.stems

-- what was there before stays before, and so is the drawing itself
module _ (st : HintState) {Was Will : Drawing → Type 0} (d : Drawing) (kept : (e : Drawing) → Was e → Will e)
    (there : Will d) (g : Made Was st d) where
  -- ---- the initial map: left as it is
  initial-left : (e : Drawing) → e.hints.initial ≡ d.hints.initial → e.hints.initial.is_valid ≡ true →
      InitialMade Will st e
  initial-left e q v =
      let m = g.initial (ap (λ (x : HintMap). x.is_valid) (sym q) ∙ v) in
      record { then = m.then; was = kept m.then m.was; invalid = m.invalid; made = q ∙ m.made }

  -- or made if there is none
  initial-made : (e : Drawing) → e.hints.initial ≡ (with_initial st d.hints).initial →
      e.hints.initial.is_valid ≡ true → InitialMade Will st e
  unfolding with_initial
  initial-made e q v = go d.hints.initial.is_valid refl q
    where
      go : (b : Bool) → d.hints.initial.is_valid ≡ b → e.hints.initial ≡ (initial_by b st d.hints).initial →
          InitialMade Will st e
      go true f p = initial-left e p v
      go false f p = record { then = d; was = there; invalid = f; made = p }

  -- ---- the current map: left as it is, with mask and initial map
  map-left : (e : Drawing) → e.hints.map ≡ d.hints.map → e.hints.mask ≡ d.hints.mask →
      (d.hints.map.is_valid ≡ true → e.hints.initial ≡ d.hints.initial) →
      e.hints.map.is_valid ≡ true → MapMade Will st e
  map-left e q k i v =
      let w = ap (λ (x : HintMap). x.is_valid) (sym q) ∙ v in
      let m = g.map w in
      record {
        then = m.then;
        was = kept m.then m.was;
        invalid = m.invalid;
        made = q ∙ m.made;
        mask = k ∙ m.mask;
        initial = i w ∙ m.initial;
      }

  -- a valid one has a valid initial map, which is not made again
  initial-stays : d.hints.map.is_valid ≡ true → (with_initial st d.hints).initial ≡ d.hints.initial
  unfolding with_initial
  initial-stays v =
      let m = g.map v in
      ap (λ (b : Bool). (initial_by b st d.hints).initial)
      (ap (λ (x : HintMap). x.is_valid) m.initial ∙ with-initial-valid st m.then.hints)

  line-left : (at device : Point) → d.pen.waiting ≡ waiting_line at device → LineMade Will st at device
  line-left at device e =
      let m = g.waiting at device e in
      record { then = m.then; was = kept m.then m.was; carried = m.carried }

  -- ---- a call that leaves all
  pub made-same : Made Will st d
  made-same = record { initial = initial-left d refl; map = map-left d refl refl (λ v. refl); waiting = line-left }

  abbrev with_hints : Hints → Drawing
  with_hints h = record { hints = h; pen = d.pen }

  made-stem : (min max : Fixed) → Made Will st (with_hints (with_stem min max d.hints))
  unfolding with_stem
  made-stem min max = go (not d.hints.map.is_valid && ltb d.hints.stems.count 96)
    where
      go : (b : Bool) → Made Will st (with_hints (stem_by b min max d.hints))
      go true =
          record {
            initial = initial-left (with_hints (stem_by true min max d.hints)) refl;
            map = map-left (with_hints (stem_by true min max d.hints)) refl refl (λ v. refl);
            waiting = line-left;
          }
      go false = made-same

  made-mask : (m : HintMask) → Made Will st (with_hints (with_mask m d.hints))
  unfolding with_mask
  made-mask m = go (same_mask m d.hints.mask)
    where
      go : (b : Bool) → Made Will st (with_hints (mask_by b m d.hints))
      go true = made-same
      go false =
          record {
            initial = initial-left (with_hints (mask_by false m d.hints)) refl;
            map = never;
            waiting = line-left;
          }

  -- a counter mask makes an initial map if there is none
  module _ (m : HintMask) where
    abbrev after : Drawing
    after = with_hints (countered st m d.hints)

    counter-leaves : (b : Bool) →
        ((initial_by b st d.hints).map ≡ d.hints.map) × ((initial_by b st d.hints).mask ≡ d.hints.mask)
    counter-leaves true = (refl, refl)
    counter-leaves false = (refl, refl)

    made-counter : Made Will st after
    unfolding countered with_initial
    made-counter =
        let l = counter-leaves d.hints.initial.is_valid in
        record {
          initial = initial-made after refl;
          map = map-left after l.0 l.1 initial-stays;
          waiting = line-left;
        }

  -- a call with a point makes the current map, if it is invalid
  module _ (pen : Pen) (waits : (at device : Point) → pen.waiting ≡ waiting_line at device →
      LineMade Will st at device) where
    abbrev drawn_with : Hints → Drawing
    drawn_with h = record { hints = h; pen = pen }

    same-mask : (b : Bool) → (initial_by b st d.hints).mask ≡ d.hints.mask
    same-mask true = refl
    same-mask false = refl

    same-stems : (b : Bool) → (initial_by b st d.hints).stems ≡ d.hints.stems
    same-stems true = refl
    same-stems false = refl

    made-left : Made Will st (drawn_with d.hints)
    made-left =
        record {
          initial = initial-left (drawn_with d.hints) refl;
          map = map-left (drawn_with d.hints) refl refl (λ v. refl);
          waiting = waits;
        }

    made-prepared : Made Will st (drawn_with (ready_of st d.hints))
    unfolding ready_of with_initial
    made-prepared = go d.hints.map.is_valid refl
      where
        go : (b : Bool) → d.hints.map.is_valid ≡ b → Made Will st (drawn_with (ready_by b st d.hints))
        go true e = made-left
        go false e =
            let n = drawn_with (ready_by false st d.hints) in
            let k = same-mask d.hints.initial.is_valid in
            let s = same-stems d.hints.initial.is_valid in
            record {
              initial = initial-made n refl;
              map = λ v. record { then = d; was = there; invalid = e; made = rw (k, s); mask = k; initial = refl };
              waiting = waits;
            }

    made-path : (points : Bool) → Made Will st (drawn_with (ready_for points st d.hints))
    made-path true = made-prepared
    made-path false = made-left

  -- a line that waits has its point carried by the current map; no other stroke leaves one
  path-waits : (p : Path) (at device : Point) →
      (stroke_of st d.hints d.pen (draw p)).pen.waiting ≡ waiting_line at device → LineMade Will st at device
  unfolding move_of line_of curve_of finish_of device_point
  path-waits (Move p) at device e = no_line at device e
  path-waits (Line p) at device e =
      let a : p ≡ at = ap (λ (w : Option WaitingLine). (line_in p w).at) e in
      let b : carried_point st d p ≡ device = ap (λ (w : Option WaitingLine). (line_in p w).device) e in
      record { then = d; was = there; carried = sym b ∙ ap (carried_point st d) a }
  path-waits (Curve p q r) at device e = no_line at device e
  path-waits Finish at device e = no_line at device e

  -- ---- any call
  pub made-next : (c : Call) → Made Will st (next_of st d c)
  made-next (stem min max) = made-stem min max
  made-next (hint_mask m) = made-mask m
  made-next (counter_mask m) = made-counter m
  made-next clear = record { initial = never; map = never; waiting = line-left }
  made-next close = made-same
  made-next (draw p) = made-path (stroke_of st d.hints d.pen (draw p)).pen (path-waits p) (has_point p)

  -- with or without room
  pub made-room : (b : Bool) (c : Call) → Made Will st (room_by b st d c)
  made-room true c = made-next c
  made-room false c = made-same

-- ---- the words of a call with points
pub pointed : (st : HintState) (d : Drawing) → Pointed st d
unfolding move_of line_of curve_of device_point
pointed st d =
    record {
      move = λ p. refl;
      line = λ p. refl;
      waits = λ p. refl;
      curve = λ p q r. refl;
    }
