-- The words of every call, and so those of a run, are whole records, and the count that a result
-- has is theirs. Assumes nothing.
use mathlib.Core.Path.{◌≡◌, refl, sym, ap, subst, ◌∙◌}
use mathlib.Core.Bool.{Bool, true, false, cond}
use mathlib.Core.List.{List, [], ◌∷◌, ◌++◌, append_assoc}
use Prim.Native.Nat.{ℕ, suc}
use native.Mathlib.Omega.{arith}
use lib.IntN.{ℤ, pos}
use lib.ListN.{length}
use Rattle.std.proofs.Common.{Option, None, Some as There}
use Rattle.zones.specs.declared.state.HintState.{HintState}
use Rattle.hintmap.specs.declared.map.HintMap.{HintMap}
use Rattle.fixed.specs.declared.Fixed.{Fixed}
use Rattle.pen.specs.declared.strokes.Point.{Point}
use Rattle.pen.specs.declared.strokes.WaitingLine.{WaitingLine}
use Rattle.pen.specs.declared.strokes.Pen.{Pen}
use Rattle.pen.specs.Strokes.{same_point, point_words, close_by, closing_words, waiting_words, flush_words, move_of}
use Rattle.pen.specs.Strokes.{line_of}
use Rattle.pen.specs.Strokes.{curve_of, finish_of}
use Rattle.pen.specs.declared.strokes.Path.{Path}
use Rattle.pen.specs.declared.strokes.Path.TheVariants.{Move, Line, Curve, Finish}
use Rattle.hints.specs.Path.{stroke_by}
use Rattle.hints.specs.declared.drawing.Drawing.{Drawing}
use Rattle.hints.specs.Calls.{new_drawing}
use Rattle.words.specs.Words.{raw_at, number_at}
use Rattle.hints.specs.Calls.{Call, stem, hint_mask, counter_mask, clear, close, draw, next_of, words_for, hints_of}
use Rattle.script.specs.Count.{size_of, records_by, records_in}
use Rattle.run.specs.Room.{words_along}
use Rattle.run.specs.Run.{Asked, steps_of}
use Rattle.script.proofs.Counting.{enough}
use Rattle.script.specs.Script.{zones_of, calls_in, steps_in}
use Rattle.theorems.specs.WholeRecords.{Record, WholeRecords, move, line, curve, close as closes, finish, none}
use Rattle.theorems.specs.WholeRecords.{first}

-- ---- so many records are as many as are counted
one_more : {r : List ℤ} → Record r → (ws : List ℤ) → records_in (r ++ ws) ≡ suc (records_in ws)
unfolding records_in records_by size_of
one_more (move x y) ws = ap suc (enough (suc (suc (length ws))) (length ws) ws (omega arith) (omega arith))
one_more (line x y) ws = ap suc (enough (suc (suc (length ws))) (length ws) ws (omega arith) (omega arith))
one_more (curve a b c d x y) ws =
    ap suc (enough (suc (suc (suc (suc (suc (suc (length ws))))))) (length ws) ws (omega arith) (omega arith))
one_more closes ws = refl
one_more finish ws = refl

pub counts : {n : ℕ} {ws : List ℤ} → WholeRecords n ws → records_in ws ≡ n
unfolding records_in records_by
counts none = refl
counts (first {ws = ws} r t) = one_more r ws ∙ ap suc (counts t)

-- ---- some records, and others behind them
abbrev pub Some : List ℤ → Type 0
Some ws = (n : ℕ) × WholeRecords n ws

joined : {n : ℕ} {ws vs : List ℤ} → WholeRecords n ws → Some vs → Some (ws ++ vs)
joined none q = q
joined {vs = vs} (first {r = r} {ws = ws} h t) q =
    let j = joined t q in
    subst Some (sym (append_assoc r ws vs)) (suc j.0, first h j.1)

both : {ws vs : List ℤ} → Some ws → Some vs → Some (ws ++ vs)
both p q = joined p.1 q

single : {r : List ℤ} → Record r → Some (r ++ [])
single r = (1, first r none)

-- ---- the words of a stroke
close-whole : (s : Option Point) (w : Option WaitingLine) → Some (close_by s w)
close-whole None w = (0, none)
close-whole (There from) None = single closes
close-whole (There from) (There wait) = go (same_point wait.at from)
  where
    go : (b : Bool) → Some (cond b (pos 4 ∷ []) (pos 2 ∷ point_words wait.device ++ pos 4 ∷ []))
    go true = single closes
    go false = both (single (line wait.device.x.bits wait.device.y.bits)) (single closes)

wait-whole : (w : Option WaitingLine) → Some (waiting_words w)
wait-whole None = (0, none)
wait-whole (There wait) = single (line wait.device.x.bits wait.device.y.bits)

stroke-whole : (m : HintMap) (s : Fixed) (pen : Pen) (p : Path) → Some (stroke_by m s pen p).words
unfolding move_of line_of curve_of finish_of closing_words flush_words
stroke-whole m s pen (Move p) = both (close-whole pen.start pen.waiting) (single (move _ _))
stroke-whole m s pen (Line p) = wait-whole pen.waiting
stroke-whole m s pen (Curve p q r) = both (wait-whole pen.waiting) (single (curve _ _ _ _ _ _))
stroke-whole m s pen Finish = both (close-whole pen.start pen.waiting) (single finish)

-- ---- of a call, and of a run
call-whole : (st : HintState) (d : Drawing) (c : Call) → Some (words_for st d c)
call-whole st d (stem min max) = (0, none)
call-whole st d (hint_mask m) = (0, none)
call-whole st d (counter_mask m) = (0, none)
call-whole st d clear = (0, none)
call-whole st d close = (0, none)
call-whole st d (draw p) = stroke-whole (hints_of st d.hints (draw p)).map st.scale d.pen p

steps-whole : (st : HintState) (d : Drawing) (cs : List Asked) → Some (words_along (steps_of st d cs))
unfolding steps_of
steps-whole st d [] = (0, none)
steps-whole st d (c ∷ cs) = both (call-whole st d c.call) (steps-whole st (next_of st d c.call) cs)

-- the record words of a script are whole records, as many as its result's header says
pub whole-records : (s : List ℕ) → WholeRecords (records_in (words_along (steps_in s))) (words_along (steps_in s))
unfolding steps_in
whole-records s =
    let w = steps-whole (zones_of s) (new_drawing (number_at (raw_at s) 1)) (calls_in s) in
    subst (λ (n : ℕ). WholeRecords n (words_along (steps_in s))) (sym (counts w.1)) w.1
