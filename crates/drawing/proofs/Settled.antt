-- What is drawn by a call's hints and stroke is that call. Assumes nothing.
use mathlib.Core.Path.{◌≡◌, refl, sym, ap, subst, ◌∙◌}
use mathlib.Core.Bool.{Bool, true, false, cond}
use mathlib.Core.List.{List}
use native.Mathlib.Omega.{arith}
use Prim.Native.Nat.{ℕ}
use lib.IntN.{ℤ}
use Rattle.std.proofs.Common.{Result, Ok, Err}
use Rattle.zones.specs.declared.state.HintState.{HintState}
use Rattle.pen.specs.declared.strokes.Pen.{Pen}
use Rattle.pen.specs.Strokes.{Stroke}
use Rattle.pen.specs.Records.{fits}
use Rattle.hints.specs.declared.hints.Hints.{Hints}
use Rattle.pen.specs.declared.strokes.Path.{Path}
use Rattle.pen.specs.declared.drawn.NoRoom.{NoRoom}
use Rattle.pen.specs.declared.drawn.Drawn.{Drawn}
use Rattle.hints.specs.Hints.{ready_of}
use Rattle.pen.specs.Drawn.{call_number, call_words, Drew}
use Rattle.hints.specs.Path.{stroke_by, has_point}
use Rattle.hints.proofs.Steps.{ready-idle}
use Rattle.hints.specs.declared.drawing.Drawing.{Drawing}
use Rattle.drawing.specs.declared.calls.After.{After}
use Rattle.hints.specs.Calls.{Call, draw, ready_for, hints_of, stroke_of, words_for, room_by}
use Rattle.drawing.specs.After.{Called, settled_by}

abbrev drawing_of : Hints → Pen → Drawing
drawing_of h pen = record { hints = h; pen = pen }

-- hints and pen settled by an answer: the answer stays, and its number tells which drawing is kept
module _ (d : Drawing) (h : Hints) (pen : Pen) where
  settled-answer : (a : Result ℕ NoRoom) → (settled_by a d h pen).answer ≡ a
  settled-answer (Ok n) = refl
  settled-answer (Err e) = refl

  settled-drawing : (a : Result ℕ NoRoom) (b : Bool) → call_number a ≡ cond b 0 6 →
      (settled_by a d h pen).drawing ≡ cond b (drawing_of h pen) d
  settled-drawing (Ok n) true e = refl
  settled-drawing (Ok n) false e = absurd (omega arith)
  settled-drawing (Err _) true e = absurd (omega arith)
  settled-drawing (Err _) false e = refl

module _ (st : HintState) (d : Drawing) where
  module _ (c : Call) {h : Hints} {t : Stroke} {out left : List ℤ} {w : Drawn} (e : h ≡ hints_of st d.hints c)
      (f : t ≡ stroke_of st d.hints d.pen c) (p : Drew t d.pen out w left) where
    drew : Drew (stroke_of st d.hints d.pen c) d.pen out w left
    drew = subst (λ (x : Stroke). Drew x d.pen out w left) f p

    -- with room the pen is the stroke's, and without it nothing changed
    kept : (b : Bool) → w.pen ≡ cond b (stroke_of st d.hints d.pen c).pen d.pen →
        cond b (drawing_of h w.pen) d ≡ room_by b st d c
    kept true q = ap (λ (k : Hints). drawing_of k w.pen) e ∙ ap (drawing_of (hints_of st d.hints c)) q
    kept false q = refl

    -- an outcome with what was answered, and such a drawing, is that of the call
    called-as : (said : After) → said.answer ≡ w.answer →
        said.drawing ≡ cond (fits (words_for st d c) out) (drawing_of h w.pen) d → Called st d c out said left
    called-as said a g =
        record {
          number = ap call_number a ∙ drew.number;
          words = ap call_words a ∙ drew.words;
          place = refl;
          drawing = g ∙ kept (fits (words_for st d c) out) drew.pen;
          memory = drew.memory;
        }

    -- what is drawn by a call's hints and stroke is that call
    pub drawn-called : {said : After} → said ≡ settled_by w.answer d h w.pen → Called st d c out said left
    drawn-called {said} g =
        called-as said (ap (λ (x : After). x.answer) g ∙ settled-answer d h w.pen w.answer)
        (ap (λ (x : After). x.drawing) g ∙
        settled-drawing d h w.pen w.answer (fits (words_for st d c) out) drew.number)

  -- a call with a point asks for ready hints, and draws by their map
  pub point-hints : (path : Path) → has_point path ≡ true → ready_of st d.hints ≡ hints_of st d.hints (draw path)
  point-hints path e = ap (λ (b : Bool). ready_for b st d.hints) (sym e)

  -- by a valid map the hints stay, and what is drawn is the call: the pen that is left is the
  -- stroke's, or as it was
  pub valid-called : (path : Path) {out left : List ℤ} {w : Drawn} → d.hints.map.is_valid ≡ true →
      Drew (stroke_by d.hints.map st.scale d.pen path) d.pen out w left →
      Called st d (draw path) out (record { drawing = drawing_of d.hints w.pen; answer = w.answer }) left
  valid-called path {out} {w = w} v p =
      called-as (draw path) same stroke p _ refl
      (go (fits (words_for st d (draw path)) out) (drew (draw path) same stroke p).pen)
    where
      idle : (b : Bool) → ready_for b st d.hints ≡ d.hints
      idle true = ready-idle st d.hints v
      idle false = refl

      same : d.hints ≡ hints_of st d.hints (draw path)
      same = sym (idle (has_point path))

      stroke : stroke_by d.hints.map st.scale d.pen path ≡ stroke_of st d.hints d.pen (draw path)
      stroke = ap (λ (h : Hints). stroke_by h.map st.scale d.pen path) same

      go : (b : Bool) → w.pen ≡ cond b (stroke_of st d.hints d.pen (draw path)).pen d.pen →
          drawing_of d.hints w.pen ≡ cond b (drawing_of d.hints w.pen) d
      go true q = refl
      go false q = ap (drawing_of d.hints) q
