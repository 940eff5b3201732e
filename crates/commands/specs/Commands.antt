-- The commands of a script (01, "The script"), read from words, whatever gives them; a script's are
-- raw_at of its bytes.
use Rattle.std.specs.Prelude.{cond, List, [], ◌∷◌, ℕ, zero, suc, ◌+◌, ◌/◌, eqb, ltb, length}
use Rattle.pen.specs.declared.strokes.Point.{Point}
use Rattle.pen.specs.declared.strokes.Path.TheVariants.{Move, Line, Curve, Finish}
use Rattle.words.specs.Words.{raw_at, given_word, number_at}
use Rattle.commands.specs.declared.reading.Marking.TheVariants.{Bad, Stem, Mask, Counter, Clear, Close}
use Rattle.commands.specs.declared.reading.Command.{Command}
use Rattle.commands.specs.declared.reading.Command.TheVariants.{Mark, Draw}
use Rattle.commands.specs.declared.reading.Words.{Words}
use Rattle.commands.specs.declared.reading.Words.TheVariants.{Script, Given}
use Rattle.commands.specs.declared.reading.Read.{Read}

-- how many operand words a kind has
unfoldable pub operands_of : ℕ → ℕ
operands_of k =
    cond (eqb k 1) 2 (cond (eqb k 2) 2 (cond (eqb k 3) 2 (cond (eqb k 5) 2 (cond (eqb k 6) 2 (cond (eqb k 7) 6 0)))))

abbrev pub point_at : (ℕ → ℕ) → ℕ → Point
point_at w i = record { x = number_at w i; y = number_at w (i + 1) }

-- the command of kind k at word i: 1 stem, 2 hint mask, 3 counter mask, 4 clear, 5 move, 6 line, 7
-- curve, 8 close, 9 finish
unfoldable pub command_of : (ℕ → ℕ) → ℕ → ℕ → Command
command_of w i k =
    cond (eqb k 1) (Mark (Stem (number_at w (i + 1)) (number_at w (i + 2))))
    (cond (eqb k 2) (Mark (Mask (w (i + 1)) (w (i + 2))))
    (cond (eqb k 3) (Mark (Counter (w (i + 1)) (w (i + 2))))
    (cond (eqb k 4) (Mark Clear)
    (cond (eqb k 5) (Draw (Move (point_at w (i + 1))))
    (cond (eqb k 6) (Draw (Line (point_at w (i + 1))))
    (cond (eqb k 7) (Draw (Curve (point_at w (i + 1)) (point_at w (i + 3)) (point_at w (i + 5))))
    (cond (eqb k 8) (Mark Close)
    (cond (eqb k 9) (Draw Finish)
    (Mark Bad)))))))))

-- past the operands of the command at word i
abbrev pub next_at : (ℕ → ℕ) → ℕ → ℕ
next_at w i = i + 1 + operands_of (w i)

-- the command at word i of n: bad where its operands are cut off
unfoldable pub read_at : (ℕ → ℕ) → ℕ → ℕ → Read
read_at w n i = record { command = cond (ltb n (next_at w i)) (Mark Bad) (command_of w i (w i)); next = next_at w i }

-- the words of a script's part, or those that are given
abbrev pub word_by : Words → ℕ → ℕ
word_by (Script part) = raw_at part.now
word_by (Given words) = given_word words.now

-- how many of them there are
abbrev pub count_by : Words → ℕ
count_by (Script part) = length part.now / 4
count_by (Given words) = length words.now

-- a command, and the word of the script at which its kind stands
pub record CommandAt : Type 0 where
  pub place : ℕ
  pub command : Command

-- the commands from word i of n on, at most f of them, where word 0 is word b of the script
unfoldable pub commands_from : ℕ → ℕ → (ℕ → ℕ) → ℕ → ℕ → List CommandAt
commands_from zero b w n i = []
commands_from (suc f) b w n i =
    cond (ltb i n) (record { place = b + i; command = (read_at w n i).command } ∷ commands_from f b w n (next_at w i))
    []

-- the commands in n words, of which there are at most n
unfoldable pub commands_of : ℕ → (ℕ → ℕ) → ℕ → List CommandAt
commands_of b w n = commands_from n b w n 0
