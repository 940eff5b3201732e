-- Demand 3: of every drawing that there can be, and of every drawing that a script's run goes
-- through. Assumes nothing.
use mathlib.Core.Path.{◌≡◌, refl, sym, ap, subst, ◌∙◌}
use mathlib.Core.Bool.{true, false}
use mathlib.Core.List.{List, [], ◌∷◌, ◌++◌}
use Prim.Native.Nat.{ℕ}
use native.Mathlib.Omega.{arith}
use lib.Dec.{leb}
use lib.IntN.{ℤ, pos}
use lib.ListN.{length}
use borrow.Author.Tests.{le-leb}
use Rattle.std.specs.Prelude.{Ok}
use Rattle.fixed.specs.Fixed.{from_bits, less_f}
use Rattle.zones.specs.declared.state.HintState.{HintState}
use Rattle.zones.specs.State.{counts_fit}
use Rattle.build.proofs.Sound.{built-good}
use Rattle.hints.specs.Hints.{with_initial, ready_of}
use Rattle.hints.specs.declared.drawing.Drawing.{Drawing}
use Rattle.drawing.specs.declared.calls.After.{After}
use Rattle.drawing.specs.declared.opening.Opened.{Opened}
use Rattle.hints.specs.Calls.{Call, next_of, words_for}
use Rattle.drawing.specs.After.{Called}
use Rattle.hints.specs.Calls.{new_drawing}
use Rattle.drawing.specs.Open.{open_of}
use Rattle.words.specs.Words.{raw_at, number_at}
use Rattle.words.proofs.Rows.{none-holds}
use Rattle.header.specs.Params.{blues_at, param_rows, params_of, WholeParams}
use Rattle.header.proofs.Fine.{params-refusing}
use Rattle.run.specs.Room.{Step}
use Rattle.run.specs.Run.{Asked, drawing_after, steps_of}
use Rattle.script.specs.Script.{zones_of, calls_in, drawing_in, steps_in}
use Rattle.script.proofs.Passed.{passed}
use Rattle.theorems.specs.Reached.{Reached, opened, called, here, next, Earlier, after_room, counter_map, Demand3}
use Rattle.theorems.specs.Demand1.{Checked}
use Rattle.theorems.specs.Demand3.{Along, OnTheWay}
use Rattle.theorems.proofs.Sound.{sound, Fine, fine, fine-ready, opened-new}
use Rattle.theorems.proofs.Made.{Made, made-new, made-next, made-room, pointed}

-- ---- what is kept along calls says what demand 3 says
demanded : {Was : Drawing → Type 0} {st : HintState} {d : Drawing} → Fine st d.hints → Made Was st d →
    Demand3 Was st d
demanded {st = st} {d = d} f g =
    record {
      initial = sound d.hints.initial f.initial;
      map = sound d.hints.map f.map;
      initial_scale = f.initial_scale;
      map_scale = f.scale;
      initial_made = g.initial;
      map_made = g.map;
      current = sound (ready_of st d.hints).map (fine-ready st d.hints f).map;
      thrown =
          λ m. sound (counter_map st d m)
          (built-good st m (with_initial st d.hints).initial (with_initial st d.hints).stems);
      pointed = pointed st d;
      waiting = g.waiting;
    }

-- ---- over all drawings that there can be
made : {st : HintState} {d : Drawing} → Reached st d → Made (Earlier st d) st d
made (opened p s) =
    let st = (open_of p s).state in
    subst (Made (Earlier st (open_of p s).drawing) st) (sym (opened-new p s))
    (made-new (Earlier st (open_of p s).drawing) st st.scale)
made (called {st} {d} r c room) =
    made-room st {Will = Earlier st (after_room room st d c)} d kept itself (made r)
    (leb (length (words_for st d c)) room) c
  where
    kept : (e : Drawing) → Earlier st d e → Earlier st (after_room room st d c) e
    kept e w = record { reached = w.reached; since = next w.since c room }

    itself : Earlier st (after_room room st d c) d
    itself = record { reached = r; since = next here c room }

pub demand-3 : {st : HintState} {d : Drawing} → Reached st d → Demand3 (Earlier st d) st d
demand-3 r = demanded (fine r) (made r)

-- ---- what the calls' contracts give of such a drawing is such a drawing
-- of a call that was done, and of one that may have been refused
pub reached-next : {st : HintState} {d : Drawing} → Reached st d → (c : Call) → Reached st (next_of st d c)
reached-next {st} {d} r c =
    let n = length (words_for st d c) in
    rw (le-leb n n (omega arith)) at (called r c n)

pub reached-called : {st : HintState} {d : Drawing} → Reached st d → (c : Call) {out left : List ℤ} {said : After} →
    Called st d c out said left → Reached st said.drawing
reached-called {st} r c {out} e = subst (λ (x : Drawing). Reached st x) (sym e.drawing) (called r c (length out))

-- ---- over scripts
-- the calls behind some are made on the drawing after these
pub steps-behind : (st : HintState) (d : Drawing) (cs ds : List Asked) →
    steps_of st d (cs ++ ds) ≡ steps_of st d cs ++ steps_of st (drawing_after st d cs) ds
unfolding steps_of drawing_after
steps-behind st d [] ds = refl
steps-behind st d (c ∷ cs) ds =
    ap (λ (l : List Step). record { place = c.place; words = words_for st d c.call } ∷ l)
    (steps-behind st (next_of st d c.call) cs ds)

-- what can be reached stays so
reached-after : {st : HintState} {d : Drawing} → Reached st d → (cs : List Asked) → Reached st (drawing_after st d cs)
unfolding drawing_after
reached-after r [] = r
reached-after {st = st} {d = d} r (c ∷ cs) = reached-after {d = next_of st d c.call} (reached-next r c.call) cs

-- and so does what is made on the way
made-along : (Was : Drawing → Type 0) (st : HintState) (d : Drawing) (cs : List Asked) →
    ((e : Drawing) → Along st d cs e → Was e) → Made Was st d → Made Was st (drawing_after st d cs)
unfolding drawing_after
made-along Was st d [] w g = g
made-along Was st d (c ∷ cs) w g =
    made-along Was st (next_of st d c.call) cs later (made-next st {Will = Was} d (λ e x. x) (w d start) g c.call)
  where
    start : Along st d (c ∷ cs) d
    start = record { before = []; after = c ∷ cs; split = refl; there = refl }

    later : (e : Drawing) → Along st (next_of st d c.call) cs e → Was e
    later e a =
        w e (record {
          before = c ∷ a.before;
          after = a.after;
          split = ap (λ (l : List Asked). c ∷ l) a.split;
          there = a.there;
        })

-- opening as a script does
fit : (s : List ℕ) → WholeParams s → counts_fit (params_of (raw_at s)) ≡ true
unfolding counts_fit params_of blues_at
fit s w = rw (le-leb _ 7 w.blues, le-leb _ 7 w.others, le-leb _ 7 w.family, le-leb _ 7 w.family_others)

module _ (s : List ℕ) (k : Checked s) where
  scale-fine : less_f (number_at (raw_at s) 1) (from_bits (pos 1)) ≡ false
  unfolding param_rows
  scale-fine = none-holds (Ok tt) (param_rows (raw_at s)) (params-refusing s) (passed s k).params 0

  -- a script that passes all tests starts with what opening gives
  pub opens : open_of (params_of (raw_at s)) (number_at (raw_at s) 1) ≡
      record { answer = Ok tt; state = zones_of s; drawing = new_drawing (number_at (raw_at s) 1) }
  unfolding open_of zones_of
  opens = rw (scale-fine, fit s (passed s k).whole)

  -- so every drawing of its run can be reached
  pub reached : (cs : List Asked) → Reached (zones_of s) (drawing_in s cs)
  reached cs = reached-after start cs
    where
      start : Reached (zones_of s) (new_drawing (number_at (raw_at s) 1))
      start =
          subst (λ (o : Opened). Reached o.state o.drawing) opens
          (opened (params_of (raw_at s)) (number_at (raw_at s) 1))

  -- and has what demand 3 says, by the drawings on the way; of the calls that are left, each writes
  -- what it writes on that drawing
  pub demand-3-in : (cs ds : List Asked) → calls_in s ≡ cs ++ ds →
      Demand3 (OnTheWay s cs) (zones_of s) (drawing_in s cs) ×
      (steps_in s ≡ steps_of (zones_of s) (new_drawing (number_at (raw_at s) 1)) cs ++
      steps_of (zones_of s) (drawing_in s cs) ds)
  unfolding steps_in
  demand-3-in cs ds e =
      let new = new_drawing (number_at (raw_at s) 1) in
      let m = made-along (OnTheWay s cs) (zones_of s) new cs (λ x a. a)
      (made-new (OnTheWay s cs) (zones_of s) (number_at (raw_at s) 1)) in
      (demanded (fine (reached cs)) m, ap (steps_of (zones_of s) new) e ∙ steps-behind (zones_of s) new cs ds)
