-- The answers to a label run (request 5): a number, a glyph that counts from 1, and a place.
use Rattle.std.specs.Prelude.{Bool, cond, not, ℕ, eqb, Result, Ok, Err}
use Rattle.words.specs.Answers.{Answer, number_of, place_of}
use Rattle.labels.specs.declared.label_answer.LabelRefusal.{LabelRefusal}
use Rattle.labels.specs.declared.label_answer.LabelRefusal.TheVariants.{RunCount, BadScale, BadBlues}
use Rattle.labels.specs.declared.label_answer.LabelRefusal.TheVariants.{BadCommand, BadMask, NoRoom}

-- the words of the result, or a refusal
abbrev pub LabelAnswer : Type 0
LabelAnswer = Result ℕ LabelRefusal

-- 01's numbers, and 9 for RUN_COUNT
abbrev pub label_number : LabelAnswer → ℕ
label_number (Ok n) = 0
label_number (Err RunCount) = 9
label_number (Err BadScale) = 2
label_number (Err BadBlues) = 3
label_number (Err (BadCommand k p)) = 4
label_number (Err (BadMask k p)) = 5
label_number (Err (NoRoom k)) = 6

-- the glyph at fault, or 0
abbrev pub label_glyph : LabelAnswer → ℕ
label_glyph (Ok n) = 0
label_glyph (Err RunCount) = 0
label_glyph (Err BadScale) = 0
label_glyph (Err BadBlues) = 0
label_glyph (Err (BadCommand k p)) = k
label_glyph (Err (BadMask k p)) = k
label_glyph (Err (NoRoom k)) = k

-- the kind word of the command at fault, among its glyph's own words, or 0
abbrev pub label_place : LabelAnswer → ℕ
label_place (Ok n) = 0
label_place (Err RunCount) = 0
label_place (Err BadScale) = 0
label_place (Err BadBlues) = 0
label_place (Err (BadCommand k p)) = p
label_place (Err (BadMask k p)) = p
label_place (Err (NoRoom k)) = 0

-- the words of the result, 0 if refused
abbrev pub label_written : LabelAnswer → ℕ
label_written (Ok n) = n
label_written (Err RunCount) = 0
label_written (Err BadScale) = 0
label_written (Err BadBlues) = 0
label_written (Err (BadCommand k p)) = 0
label_written (Err (BadMask k p)) = 0
label_written (Err (NoRoom k)) = 0

abbrev pub label_refuses : LabelAnswer → Bool
label_refuses a = not (eqb (label_number a) 0)

-- the first fault among the commands of glyph k: a mask's, or a command's
abbrev pub in_glyph : ℕ → Answer → LabelAnswer
in_glyph k a = cond (eqb (number_of a) 5) (Err (BadMask k (place_of a))) (Err (BadCommand k (place_of a)))
