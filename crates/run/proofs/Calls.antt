-- Laws of a run over placed calls: what a call makes of the drawing, the words and the calls that
-- are left. A script's commands are one list of calls (Turns). Assumes nothing.
use mathlib.Core.Path.{◌≡◌, refl, sym, ap, ◌∙◌}
use mathlib.Core.Bool.{Bool, true, false}
use mathlib.Core.List.{List, [], ◌∷◌, ◌++◌}
use Prim.Native.Nat.{ℕ, ◌+◌}
use native.Mathlib.Nat.{add-zero}
use native.Mathlib.Omega.{arith}
use lib.IntN.{ℤ}
use lib.ListN.{length, take, drop}
use borrow.Author.Tests.{le-leb}
use Rattle.std.specs.Prelude.{Ok, Err}
use Rattle.zones.specs.declared.state.HintState.{HintState}
use Rattle.pen.specs.declared.strokes.Pen.{Pen}
use Rattle.pen.specs.Strokes.{Stroke}
use Rattle.pen.specs.Records.{fits}
use Rattle.hints.specs.declared.hints.Hints.{Hints}
use Rattle.pen.specs.declared.strokes.Path.{Path}
use Rattle.pen.specs.declared.drawn.Drawn.{Drawn}
use Rattle.hints.specs.Hints.{ready_of}
use Rattle.hints.specs.Path.{has_point, stroke_by}
use Rattle.pen.proofs.Drew.{DrewWords, DrewNothing}
use Rattle.hints.proofs.Steps.{ready-idle, ready-twice}
use Rattle.hints.specs.declared.drawing.Drawing.{Drawing}
use Rattle.hints.specs.Calls.{Call, draw, ready_for, hints_of, still, stroke_of}
use Rattle.words.specs.declared.answer.Refusal.TheVariants.{NoRoom}
use Rattle.run.specs.Room.{Step}
use Rattle.run.specs.Run.{Asked, steps_of, wants_map}
use Rattle.run.proofs.Filling.{Along, following, placed, placed-none, wrote, Stopped, refused, done}

abbrev pub drawing_of : Hints → Pen → Drawing
drawing_of h pen = record { hints = h; pen = pen }

module _ (st : HintState) where
  -- where no map is wanted, a path call leaves the hints as they are
  pub idle-hints : (h : Hints) (b : Bool) → h.map.is_valid ≡ b → (path : Path) → wants_map b path ≡ false →
      hints_of st h (draw path) ≡ h
  idle-hints h true v path w = go (has_point path)
    where
      go : (points : Bool) → ready_for points st h ≡ h
      go true = ready-idle st h v
      go false = refl
  idle-hints h false v path w = ap (λ (b : Bool). ready_for b st h) w

  -- where one is wanted, hints that are ready give the same
  ready-hints : (h : Hints) (path : Path) → has_point path ≡ true →
      hints_of st (ready_of st h) (draw path) ≡ hints_of st h (draw path)
  ready-hints h path w = rw w (ready-twice st h)

  -- a stroke depends on the hints that its call leaves alone
  same-stroke : (h : Hints) {k : Hints} (pen : Pen) (path : Path) → hints_of st h (draw path) ≡ k →
      stroke_of st h pen (draw path) ≡ stroke_by k.map st.scale pen path
  same-stroke h pen path e = ap (λ (x : Hints). stroke_by x.map st.scale pen path) e

  -- the words of the first call, and the calls behind it
  steps_first : (h : Hints) (pen : Pen) (place : ℕ) (c : Call) (cs : List Asked) (t : Stroke) (k : Hints) →
      stroke_of st h pen c ≡ t → hints_of st h c ≡ k →
      steps_of st (drawing_of h pen) (record { place = place; call = c } ∷ cs) ≡
      record { place = place; words = t.words } ∷ steps_of st (drawing_of k t.pen) cs
  unfolding steps_of
  steps_first h pen place c cs t k f q =
      ap (λ (x : Stroke). record { place = place; words = x.words } ∷
      steps_of st (drawing_of (hints_of st h c) x.pen) cs) f ∙
      ap (λ (x : Hints). record { place = place; words = t.words } ∷ steps_of st (drawing_of x t.pen) cs)
      q

-- how a run stands before some calls, of all whose steps these are
pub record Standing (st : HintState) (all : List Step) (out₀ : List ℤ) (cs : List Asked) (h : Hints) (pen : Pen)
    (next : ℕ) (out : List ℤ) : Type 0 where
  pub along : Along all out₀ (steps_of st (drawing_of h pen) cs) next out

-- the same of equal calls
pub standing : {st : HintState} {all : List Step} {out₀ : List ℤ} {cs cs' : List Asked} {h : Hints} {pen : Pen}
    {next : ℕ} {out : List ℤ} → cs ≡ cs' → Standing st all out₀ cs h pen next out →
    Standing st all out₀ cs' h pen next out
standing e g = rw e at g

module _ {st : HintState} {all : List Step} {out₀ : List ℤ} {place : ℕ} {c : Call} {cs : List Asked} {h : Hints}
    {pen : Pen} {next : ℕ} {out : List ℤ}
    (g : Standing st all out₀ (record { place = place; call = c } ∷ cs) h pen next out) where
  -- a call whose words fit
  pub turned : (t : Stroke) (k : Hints) → stroke_of st h pen c ≡ t → hints_of st h c ≡ k →
      fits t.words (drop next out) ≡ true →
      Standing st all out₀ cs k t.pen (next + length t.words) (placed next t.words out)
  turned t k f q r = record { along = wrote (following (steps_first st h pen place c cs t k f q) g.along) r }

  -- one that writes nothing
  pub marked : stroke_of st h pen c ≡ still pen → Standing st all out₀ cs (hints_of st h c) pen next out
  marked f =
      let r = turned (still pen) (hints_of st h c) f refl (le-leb 0 (length (drop next out)) (omega arith)) in
      rw (add-zero, placed-none) at r

module _ {st : HintState} {all : List Step} {out₀ : List ℤ} {place : ℕ} {path : Path} {cs : List Asked} {h : Hints}
    {pen : Pen} {next : ℕ} {out : List ℤ}
    (g : Standing st all out₀ (record { place = place; call = draw path } ∷ cs) h pen next out) where
  -- a path call that wants a map: hints that are ready stand as these do
  pub readied : has_point path ≡ true →
      Standing st all out₀ (record { place = place; call = draw path } ∷ cs) (ready_of st h) pen next out
  readied w =
      let q = ready-hints st h path w in
      let f = same-stroke st (ready_of st h) pen path q in
      let t = stroke_of st h pen (draw path) in
      let k = hints_of st h (draw path) in
      record {
        along =
            following (steps_first st h pen place (draw path) cs t k refl refl ∙
            sym (steps_first st (ready_of st h) pen place (draw path) cs t k f q)) g.along;
      }

  module _ (w : wants_map h.map.is_valid path ≡ false) where
    idle : hints_of st h (draw path) ≡ h
    idle = idle-hints st h h.map.is_valid refl path w

    by_map : stroke_of st h pen (draw path) ≡ stroke_by h.map st.scale pen path
    by_map = same-stroke st h pen path idle

    -- one that wrote its words
    pub drew : {said : Drawn} {k : ℕ} {exit : List ℤ} →
        DrewWords (stroke_by h.map st.scale pen path) (drop next out) said k exit →
        Standing st all out₀ cs h said.pen (next + k) (take next out ++ exit)
    drew d =
        let r = turned g (stroke_by h.map st.scale pen path) h by_map idle d.fit in
        rw (d.pen, d.count, d.left) r

    -- and one that did not
    pub denied : {said : Drawn} {exit : List ℤ} →
        DrewNothing (stroke_by h.map st.scale pen path) pen (drop next out) said exit →
        Stopped all out₀ (Err (NoRoom place)) next out
    denied d =
        refused (following (steps_first st h pen place (draw path) cs (stroke_by h.map st.scale pen path) h by_map
        idle) g.along) d.fit

-- after the last call
pub finished : {st : HintState} {all : List Step} {out₀ : List ℤ} {h : Hints} {pen : Pen} {next : ℕ} {out : List ℤ} →
    Standing st all out₀ [] h pen next out → Stopped all out₀ (Ok tt) next out
unfolding steps_of
finished g = done g.along
