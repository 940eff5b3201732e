-- What is wrong with a command (01's table, BAD_COMMAND and BAD_MASK).
use Rattle.std.specs.Prelude.{Bool, true, false, cond, ◌||◌, List, [], ◌∷◌, ◌++◌, ℕ, ◌+◌, ltb, Ok, Err}
use Rattle.words.specs.declared.answer.Refusal.TheVariants.{BadCommand, BadMask}
use Rattle.words.specs.Words.{negative}
use Rattle.words.specs.Rows.{Row, row}
use Rattle.commands.specs.declared.reading.Marking.TheVariants.{Bad, Stem, Mask, Counter, Clear, Close}
use Rattle.commands.specs.declared.reading.Command.{Command}
use Rattle.commands.specs.declared.reading.Command.TheVariants.{Mark, Draw}
use Rattle.commands.specs.Commands.{CommandAt}
use Rattle.words.specs.Answers.{Answer}

-- start or length negative, or the end past the mask bytes; the sum is exact
unfoldable pub mask_past : ℕ → ℕ → ℕ → Bool
mask_past start len bytes = negative start || (negative len || ltb bytes (start + len))

abbrev pub mask_answer : ℕ → ℕ → ℕ → ℕ → Answer
mask_answer start len bytes place = cond (mask_past start len bytes) (Err (BadMask place)) (Ok tt)

-- kind outside 1 to 9, or operands cut off
abbrev pub is_bad : Command → Bool
is_bad (Mark Bad) = true
is_bad (Mark (Stem min max)) = false
is_bad (Mark (Mask start len)) = false
is_bad (Mark (Counter start len)) = false
is_bad (Mark Clear) = false
is_bad (Mark Close) = false
is_bad (Draw p) = false

abbrev pub has_bad_mask : ℕ → Command → Bool
has_bad_mask bytes (Mark Bad) = false
has_bad_mask bytes (Mark (Stem min max)) = false
has_bad_mask bytes (Mark (Mask start len)) = mask_past start len bytes
has_bad_mask bytes (Mark (Counter start len)) = mask_past start len bytes
has_bad_mask bytes (Mark Clear) = false
has_bad_mask bytes (Mark Close) = false
has_bad_mask bytes (Draw p) = false

-- the tests of a command, and of the commands first to last
abbrev pub fault_rows : ℕ → ℕ → Command → List (Row Answer)
fault_rows bytes place c =
    row (is_bad c) (Err (BadCommand place)) ∷ row (has_bad_mask bytes c) (Err (BadMask place)) ∷ []

unfoldable pub command_rows : ℕ → List CommandAt → List (Row Answer)
command_rows bytes [] = []
command_rows bytes (c ∷ cs) = fault_rows bytes c.place c.command ++ command_rows bytes cs
