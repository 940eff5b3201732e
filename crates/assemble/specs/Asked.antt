-- What the program's input asks for, and what the program writes: number, place and, if OK, the
-- script.
use Rattle.std.specs.Prelude.{◌≡◌, Bool, cond, ◌||◌, List, [], ◌∷◌, ◌++◌, map, ℕ, ◌+◌, ◌*◌, ltb, length, take, drop}
use Rattle.std.specs.Prelude.{Err}
use Rattle.fixed.specs.Integers.{signed}
use Rattle.words.specs.Bytes.{bytes_of, over}
use Rattle.words.specs.Words.{raw_at, number_at, words_from}
use Rattle.writer.specs.Refusals.{WriteAnswer}
use Rattle.writer.specs.declared.write_answer.WriteRefusal.TheVariants.{ScriptRoom}
use Rattle.writer.specs.ToWrite.{Given, given, script_for}
use Rattle.writer.specs.ParamWords.{params_in}
use Rattle.writer.specs.Refusals.{write_number, write_place, write_refuses, write_answer, WriteResult, buffer_by}

-- ---- the input
-- the scale, 64 parameter words, two counts, so many command words; behind them so many mask bytes
abbrev pub asked_by : List ℕ → ℕ → ℕ → Given
asked_by b commands masks =
    given (number_at (raw_at b) 0) (params_in (map signed (words_from (raw_at b) 1 64)))
    (map signed (words_from (raw_at b) 67 commands)) (take masks (drop (4 * (67 + commands)) b))

unfoldable pub asked_in : List ℕ → Given
asked_in b = asked_by b (raw_at b 65) (raw_at b 66)

-- ---- the answer
-- more command words or mask bytes than a script has bytes for
abbrev pub too_many : List ℕ → Bool
too_many b = ltb 16384 (raw_at b 65) || ltb 65536 (raw_at b 66)

unfoldable pub answer_to : List ℕ → WriteAnswer
answer_to b = cond (too_many b) (Err ScriptRoom) (write_answer (asked_in b) 65536)

-- the answer, and the buffer with it
unfoldable pub answer_in : List ℕ → List ℕ → WriteResult
answer_in b lent =
    record { answer = answer_to b; left = buffer_by (write_refuses (answer_to b)) (script_for (asked_in b)) lent }

-- ---- the output
unfoldable pub program_bytes : List ℕ → List ℕ
program_bytes b =
    bytes_of (write_number (answer_to b) ∷ write_place (answer_to b) ∷ []) ++
    cond (write_refuses (answer_to b)) [] (script_for (asked_in b))

-- some bytes at the start of others, whose rest stands, and how many they are
pub record AtStart (written bytes : List ℕ) (count : ℕ) (left : List ℕ) : Type 0 where
  pub number : count ≡ length written
  pub memory : left ≡ over written bytes
