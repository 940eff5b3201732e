-- The outcome of a call on a drawing (01, "Path records"), which room commits or not.
use Rattle.std.specs.Prelude.{◌≡◌, cond, List, ℕ, ℤ, length, Result, Ok, Err}
use Rattle.zones.specs.declared.state.HintState.{HintState}
use Rattle.pen.specs.declared.strokes.Pen.{Pen}
use Rattle.pen.specs.Records.{written, fits}
use Rattle.hints.specs.declared.hints.Hints.{Hints}
use Rattle.hints.specs.declared.drawing.Drawing.{Drawing}
use Rattle.pen.specs.declared.drawn.NoRoom.{NoRoom}
use Rattle.pen.specs.Drawn.{call_number, call_words, call_place}
use Rattle.hints.specs.Calls.{Call, words_for, room_by}
use Rattle.drawing.specs.declared.calls.After.{After}

-- the outcome of a call: 01's number, the words written and the place; the drawing; and what is
-- lent
pub record Called (st : HintState) (d : Drawing) (c : Call) (out : List ℤ) (said : After) (left : List ℤ) : Type 0 where
  pub number : call_number said.answer ≡ cond (fits (words_for st d c) out) 0 6
  pub words : call_words said.answer ≡ cond (fits (words_for st d c) out) (length (words_for st d c)) 0
  pub place : call_place said.answer ≡ 0
  pub drawing : said.drawing ≡ room_by (fits (words_for st d c) out) st d c
  pub memory : left ≡ cond (fits (words_for st d c) out) (written (words_for st d c) out) out

-- hints and pen are kept if there was room, and else the drawing is as it came
abbrev pub settled_by : Result ℕ NoRoom → Drawing → Hints → Pen → After
settled_by (Ok n) d h pen = record { drawing = record { hints = h; pen = pen }; answer = Ok n }
settled_by (Err e) d h pen = record { drawing = d; answer = Err e }
