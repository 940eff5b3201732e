-- The outcome of a stroke (01, "Path records"), which room commits or not.
use Rattle.std.specs.Prelude.{◌≡◌, cond, List, ℕ, ℤ, length, Result, Ok, Err}
use Rattle.pen.specs.declared.strokes.Pen.{Pen}
use Rattle.pen.specs.declared.drawn.Drawn.{Drawn}
use Rattle.pen.specs.declared.drawn.NoRoom.{NoRoom}
use Rattle.pen.specs.Records.{written, fits}
use Rattle.pen.specs.Strokes.{Stroke}

-- ---- the answer of a call that writes records
-- 01's number: 0 is OK, 6 NO_ROOM
abbrev pub call_number : Result ℕ NoRoom → ℕ
call_number (Ok n) = 0
call_number (Err e) = 6

-- the words written, 0 if refused
abbrev pub call_words : Result ℕ NoRoom → ℕ
call_words (Ok n) = n
call_words (Err e) = 0

-- 01's place
abbrev pub call_place : Result ℕ NoRoom → ℕ
call_place a = 0

-- the outcome of a stroke: with room for its words they are written and the pen is the stroke's;
-- else pen and words are as they came
pub record Drew (t : Stroke) (from : Pen) (out : List ℤ) (said : Drawn) (left : List ℤ) : Type 0 where
  pub number : call_number said.answer ≡ cond (fits t.words out) 0 6
  pub words : call_words said.answer ≡ cond (fits t.words out) (length t.words) 0
  pub place : call_place said.answer ≡ 0
  pub pen : said.pen ≡ cond (fits t.words out) t.pen from
  pub memory : left ≡ cond (fits t.words out) (written t.words out) out
