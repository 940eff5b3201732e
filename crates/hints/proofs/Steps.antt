-- Laws of the steps of a drawing, for whoever repeats them: hints that are ready stay so, and a path
-- call writes at most ten words. Assumes nothing.
use mathlib.Core.Path.{◌≡◌, refl, ap}
use mathlib.Core.Bool.{Bool, true, false}
use mathlib.Core.List.{List}
use Prim.Native.Nat.{◌≤◌}
use lib.IntN.{ℤ}
use lib.ListN.{length}
use Rattle.fixed.specs.declared.Fixed.{Fixed}
use Rattle.zones.specs.declared.state.HintState.{HintState}
use Rattle.hintmap.specs.declared.map.HintMap.{HintMap}
use Rattle.build.proofs.Sound.{built-valid}
use Rattle.pen.specs.declared.strokes.Pen.{Pen}
use Rattle.pen.proofs.Words.{move-short, line-short, curve-short, finish-short}
use Rattle.hints.specs.declared.hints.Hints.{Hints}
use Rattle.pen.specs.declared.strokes.Path.{Path}
use Rattle.pen.specs.declared.strokes.Path.TheVariants.{Move, Line, Curve, Finish}
use Rattle.hints.specs.Hints.{ready_by, ready_of}
use Rattle.hints.specs.Path.{stroke_by}

-- ---- hints
module _ (st : HintState) (h : Hints) where
  -- hints with a valid map are ready
  pub ready-idle : h.map.is_valid ≡ true → ready_of st h ≡ h
  unfolding ready_of
  ready-idle e = ap (λ (b : Bool). ready_by b st h) e

  -- hints that are ready have a valid map
  pub ready-valid : (ready_of st h).map.is_valid ≡ true
  unfolding ready_of
  ready-valid = go h.map.is_valid refl
    where
      go : (b : Bool) → h.map.is_valid ≡ b → (ready_by b st h).map.is_valid ≡ true
      go true e = e
      go false e = built-valid st _ _ _

-- so they are made ready once
pub ready-twice : (st : HintState) (h : Hints) → ready_of st (ready_of st h) ≡ ready_of st h
ready-twice st h = ready-idle st (ready_of st h) (ready-valid st h)

-- ---- how many words a path call writes
-- its words
abbrev pub path_words : HintMap → Fixed → Pen → Path → List ℤ
path_words m s pen path = (stroke_by m s pen path).words

-- at most ten
pub words-short : (m : HintMap) (s : Fixed) (pen : Pen) (path : Path) → length (path_words m s pen path) ≤ 10
words-short m s pen (Move p) = move-short pen p _
words-short m s pen (Line p) = line-short pen p _
words-short m s pen (Curve p q r) = curve-short pen _ _ _
words-short m s pen Finish = finish-short pen
