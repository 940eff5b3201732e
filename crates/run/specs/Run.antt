-- A run of calls over a new drawing (01, "The script"): the record words of each call, and those
-- for which there is room. A script's commands are one list of calls.
use Rattle.std.specs.Prelude.{◌≡◌, Bool, true, false, List, [], ◌∷◌, ℕ, ◌+◌, ◌≤◌, ◌<◌, ℤ, length, take, drop, Ok}
use Rattle.stems.specs.declared.mask.HintMask.{HintMask}
use Rattle.stems.specs.Mask.{mask_of}
use Rattle.zones.specs.declared.state.HintState.{HintState}
use Rattle.pen.specs.Records.{written}
use Rattle.pen.specs.declared.strokes.Path.{Path}
use Rattle.hints.specs.declared.drawing.Drawing.{Drawing}
use Rattle.hints.specs.Path.{has_point}
use Rattle.hints.specs.Calls.{Call, stem, hint_mask, counter_mask, clear, close, draw, next_of, words_for}
use Rattle.hints.specs.Calls.{new_drawing}
use Rattle.words.specs.Answers.{Says, first_of}
use Rattle.commands.specs.declared.reading.Marking.{Marking}
use Rattle.commands.specs.declared.reading.Marking.TheVariants.{Bad, Stem, Mask, Counter, Clear, Close}
use Rattle.commands.specs.declared.reading.Command.{Command}
use Rattle.commands.specs.declared.reading.Command.TheVariants.{Mark, Draw}
use Rattle.commands.specs.Commands.{CommandAt, commands_of}
use Rattle.commands.specs.Faults.{command_rows}
use Rattle.run.specs.declared.running.Ran.{Ran}
use Rattle.run.specs.Room.{Step, Fitted, fitted}

-- ---- what a command asks
-- the mask of some of a script's bytes, whose mask bytes start at byte from
abbrev pub mask_at : List ℕ → ℕ → ℕ → ℕ → HintMask
mask_at s from start len = mask_of (take len (drop (from + start) s))

-- the call that a marking is; a script with a bad one is never run
abbrev pub mark_call : List ℕ → ℕ → Marking → Call
mark_call s from Bad = close
mark_call s from (Stem min max) = stem min max
mark_call s from (Mask start len) = hint_mask (mask_at s from start len)
mark_call s from (Counter start len) = counter_mask (mask_at s from start len)
mark_call s from Clear = clear
mark_call s from Close = close

abbrev pub call_of : List ℕ → ℕ → Command → Call
call_of s from (Mark m) = mark_call s from m
call_of s from (Draw p) = draw p

-- a call, and the place that is named where its words do not fit
pub record Asked : Type 0 where
  pub place : ℕ
  pub call : Call

-- the calls that commands are
unfoldable pub calls_of : List ℕ → ℕ → List CommandAt → List Asked
calls_of s from [] = []
calls_of s from (c ∷ cs) = record { place = c.place; call = call_of s from c.command } ∷ calls_of s from cs

-- ---- the record words of each call
unfoldable pub steps_of : HintState → Drawing → List Asked → List Step
steps_of st d [] = []
steps_of st d (c ∷ cs) =
    record { place = c.place; words = words_for st d c.call } ∷ steps_of st (next_of st d c.call) cs

-- ---- the drawing that calls leave
-- a drawing after some calls, each of them done
unfoldable pub drawing_after : HintState → Drawing → List Asked → Drawing
drawing_after st d [] = d
drawing_after st d (c ∷ cs) = drawing_after st (next_of st d c.call) cs

-- ---- the run
-- what a run answers, and the output that it leaves
pub record Ending : Type 0 where
  pub ran : Ran
  pub left : List ℤ

abbrev pub ending_of : Fitted → List ℤ → Ending
ending_of f out = record { ran = record { answer = f.said; words = length f.words }; left = written f.words out }

-- calls over a new drawing, into all of an output
unfoldable pub ran_of : HintState → List Asked → List ℤ → Ending
ran_of st cs out = ending_of (fitted (length out) (steps_of st (new_drawing st.scale) cs)) out

-- 01's number and place, the record words that were written, and the output
pub record Ended (o : Ending) (r : Ran) (left : List ℤ) : Type 0 where
  pub answer : Says o.ran.answer r.answer
  pub words : r.words ≡ o.ran.words
  pub memory : left ≡ o.left

-- ---- what a run of checked commands has
-- where the mask that a command names ends, in the mask bytes
abbrev pub mask_end : Marking → ℕ
mask_end Bad = 0
mask_end (Stem min max) = 0
mask_end (Mask start len) = start + len
mask_end (Counter start len) = start + len
mask_end Clear = 0
mask_end Close = 0

-- commands without a fault in n words, whatever gives word i; their masks are bytes of s
pub record Runnable (s : List ℕ) (w : ℕ → ℕ) (first n from : ℕ) : Type 0 where
  pub short : n < 2147483648
  pub start : first < 2147483648
  pub bytes : ℕ
  pub inside : from + bytes ≤ length s
  pub faultless : first_of (command_rows bytes (commands_of first w n)) ≡ Ok tt

-- a call has points, and the map that carries them is not valid
abbrev pub wants_map : Bool → Path → Bool
wants_map true p = false
wants_map false p = has_point p

-- a close, which leaves the hints as they are
abbrev pub is_close : Marking → Bool
is_close Bad = false
is_close (Stem min max) = false
is_close (Mask start len) = false
is_close (Counter start len) = false
is_close Clear = false
is_close Close = true
