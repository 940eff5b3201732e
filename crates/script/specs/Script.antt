-- A whole script (01, "The script"): all tests in 01's order, then the run, and what is left in
-- every output word.
use Rattle.std.specs.Prelude.{◌≡◌, Bool, true, false, List, ◌∷◌, ◌++◌, ℕ, ◌-◌, ◌*◌, ltb, ℤ, pos, length, take, drop}
use Rattle.std.specs.Prelude.{Err}
use Rattle.zones.specs.declared.state.HintState.{HintState}
use Rattle.zones.specs.State.{state_of}
use Rattle.pen.specs.Records.{written}
use Rattle.hintmap.specs.declared.map.HintMap.{HintMap}
use Rattle.hints.specs.declared.drawing.Drawing.{Drawing}
use Rattle.hints.specs.Calls.{new_drawing}
use Rattle.words.specs.declared.answer.Refusal.TheVariants.{NoRoom}
use Rattle.words.specs.Words.{raw_at, number_at}
use Rattle.words.specs.Rows.{Row}
use Rattle.words.specs.Answers.{Answer, Says, first_of, refuses}
use Rattle.header.specs.Header.{header_rows}
use Rattle.header.specs.Params.{param_rows, params_of}
use Rattle.commands.specs.Commands.{CommandAt, commands_of}
use Rattle.commands.specs.Faults.{command_rows}
use Rattle.script.specs.Count.{records_in}
use Rattle.run.specs.Room.{Step, Fitted, fitted}
use Rattle.run.specs.Run.{Asked, calls_of, drawing_after, steps_of}

-- ---- the tests
-- the commands: as many words as word 5 says, from the offset in word 4 on
abbrev pub commands_in : List ℕ → List CommandAt
commands_in s = commands_of (raw_at s 4) (raw_at (drop (4 * raw_at s 4) s)) (raw_at s 5)

-- header, scale, counts, word 3 against the pairs, commands first to last
unfoldable pub check_rows : List ℕ → List (Row Answer)
check_rows s = header_rows s ++ (param_rows (raw_at s) ++ command_rows (raw_at s 7) (commands_in s))

-- ---- the run
-- the zones, made once
unfoldable pub zones_of : List ℕ → HintState
zones_of s = state_of (params_of (raw_at s)) (number_at (raw_at s) 1)

-- the commands as calls; the mask bytes start at the offset in word 6
abbrev pub calls_in : List ℕ → List Asked
calls_in s = calls_of s (4 * raw_at s 6) (commands_in s)

-- the new drawing of a script after some of its calls, each of them done
abbrev pub drawing_in : List ℕ → List Asked → Drawing
drawing_in s cs = drawing_after (zones_of s) (new_drawing (number_at (raw_at s) 1)) cs

-- the current map after the first k commands, or after all if there are fewer
unfoldable pub map_at : List ℕ → ℕ → HintMap
map_at s k = (drawing_in s (take k (calls_in s))).hints.map

-- the record words of each call, over a new drawing
unfoldable pub steps_in : List ℕ → List Step
steps_in s = steps_of (zones_of s) (new_drawing (number_at (raw_at s) 1)) (calls_in s)

-- ---- the result
-- header 1, record count, 4, record words; then the records
abbrev pub result_words : List ℤ → List ℤ
result_words ws = pos 1 ∷ pos (records_in ws) ∷ pos 4 ∷ pos (length ws) ∷ ws

-- an answer, and the output with it
pub record Result : Type 0 where
  pub answer : Answer
  pub left : List ℤ

-- NO_ROOM in a run keeps earlier commands' records from word 4, and every other word stands; on OK
-- words past the result stand as lent
abbrev pub left_by : Bool → List ℤ → List ℤ → List ℤ
left_by true ws out = take 4 out ++ written ws (drop 4 out)
left_by false ws out = written (result_words ws) out

abbrev pub ended_by : Fitted → List ℤ → Result
ended_by f out = record { answer = f.said; left = left_by (refuses f.said) f.words out }

-- a fault changes no word; nor does an output of under 4 words, refused at word 4's figure
abbrev pub result_by : Bool → Bool → List ℕ → List ℤ → Result
result_by true small s out = record { answer = first_of (check_rows s); left = out }
result_by false true s out = record { answer = Err (NoRoom (raw_at s 4)); left = out }
result_by false false s out = ended_by (fitted (length out - 4) (steps_in s)) out

unfoldable pub script_of : List ℕ → List ℤ → Result
script_of s out = result_by (refuses (first_of (check_rows s))) (ltb (length out) 4) s out

-- 01's number and place, and every word of the output
pub record Scripted (o : Result) (said : Answer) (left : List ℤ) : Type 0 where
  pub answer : Says o.answer said
  pub memory : left ≡ o.left
