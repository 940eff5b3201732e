-- The program's answer (01, "The script"): number, place and, if OK, the result, as words of four
-- bytes, the least first.
use Rattle.std.specs.Prelude.{◌≡◌, cond, List, [], ◌∷◌, map, ℕ, ◌+◌, ◌*◌, ℤ, pos, length, take, get_or, replicate}
use Rattle.fixed.specs.Integers.{bits_of}
use Rattle.words.specs.Bytes.{laid}
use Rattle.words.specs.Answers.{Answer, number_of, place_of, refuses}
use Rattle.run.specs.Room.{fitted}
use Rattle.script.specs.Script.{steps_in, result_words, script_of}

-- ---- the answer
-- number, place and, if OK, the result
unfoldable pub answer_words : Answer → List ℤ → List ℕ
answer_words a result = number_of a ∷ place_of a ∷ cond (refuses a) [] (map bits_of result)

-- the result that an output holds: its header, and as many record words as the header's last word
-- says
unfoldable pub result_in : List ℤ → List ℤ
result_in out = take (4 + bits_of (get_or out 3 (pos 0))) out

-- some words at the start of bytes, and how many bytes they are
pub record Answered (ws bytes : List ℕ) (count : ℕ) (left : List ℕ) : Type 0 where
  pub number : count ≡ 4 * length ws
  pub memory : left ≡ laid bytes 0 ws

-- ---- the program: the answer to a script that is run into 16,384 words, which leave 16,380 for the records
abbrev pub lent : List ℤ
lent = replicate 16384 (pos 0)

unfoldable pub program_words : List ℕ → List ℕ
program_words s = answer_words (script_of s lent).answer (result_words (fitted 16380 (steps_in s)).words)
