-- Demand 1, as a reader has it: what each row of 01's table says, and what stands in every output
-- word afterwards. Laid beside that table, row by row.
use Rattle.std.specs.Prelude.{◌≡◌, Bool, true, List, ◌∷◌, ◌++◌, ℕ, ◌+◌, ◌-◌, ◌≤◌, ◌<◌, ◌*◌, ℤ, pos, length, take, drop}
use Rattle.std.specs.Prelude.{Ok, Err}
use Rattle.std.specs.Prelude.{◌≤ℤ◌, ◌<ℤ◌}
use Rattle.pen.specs.Records.{written}
use Rattle.words.specs.declared.answer.Refusal.TheVariants.{BadScript, BadScale, BadBlues, BadCommand, BadMask}
use Rattle.words.specs.declared.answer.Refusal.TheVariants.{NoRoom}
use Rattle.words.specs.Words.{raw_at, word_at}
use Rattle.words.specs.Rows.{First}
use Rattle.words.specs.Answers.{Answer, first_of}
use Rattle.header.specs.Header.{header_rows}
use Rattle.header.specs.Params.{pairs_in, param_rows}
use Rattle.commands.specs.declared.reading.Command.{Command}
use Rattle.commands.specs.Commands.{CommandAt}
use Rattle.commands.specs.Faults.{is_bad, has_bad_mask, command_rows}
use Rattle.run.specs.Room.{Step, words_along}
use Rattle.script.specs.Script.{commands_in, check_rows, steps_in, result_words}

-- ---- what is fine
abbrev pub HeaderFine : List ℕ → Type 0
HeaderFine s = first_of (header_rows s) ≡ Ok tt

-- a scale of 1 bit or more
abbrev pub ScaleFine : List ℕ → Type 0
ScaleFine s = pos 1 ≤ℤ word_at (raw_at s) 1

-- four counts from 0 to 7
abbrev pub CountsFine : List ℕ → Type 0
CountsFine s = (j : ℕ) → 12 ≤ j → j ≤ 15 → raw_at s j ≤ 7

abbrev pub PairsFine : List ℕ → Type 0
PairsFine s = raw_at s 3 ≡ 8 + 2 * pairs_in (raw_at s)

-- all of it, and every command
abbrev pub Checked : List ℕ → Type 0
Checked s = first_of (check_rows s) ≡ Ok tt

-- ---- the rows
-- 1: a test of the header holds, the first that does giving the place; or, after the counts, word 3
-- is not 8 + 2·pairs
pub data BadScriptWhen (s : List ℕ) (p : ℕ) : Type 0 where
  header : First (Ok tt) (header_rows s) (Err (BadScript p)) → BadScriptWhen s p
  pairs : HeaderFine s → ScaleFine s → CountsFine s → (PairsFine s → ⊥) → p ≡ 3 → BadScriptWhen s p

-- 2: scale below 1
pub record BadScaleWhen (s : List ℕ) : Type 0 where
  pub header : HeaderFine s
  pub scale : word_at (raw_at s) 1 <ℤ pos 1

-- 3: a count outside 0 to 7, at the first of words 12 to 15
pub record BadBluesWhen (s : List ℕ) (p : ℕ) : Type 0 where
  pub header : HeaderFine s
  pub scale : ScaleFine s
  pub least : 12 ≤ p
  pub most : p ≤ 15
  pub count : 7 < raw_at s p
  pub before : (j : ℕ) → 12 ≤ j → j < p → raw_at s j ≤ 7

-- 4 and 5: the first command with a fault has this one; its place is that of its kind word
pub record FaultWhen (s : List ℕ) (faulty : Command → Bool) (p : ℕ) : Type 0 where
  pub header : HeaderFine s
  pub params : first_of (param_rows (raw_at s)) ≡ Ok tt
  pub before : List CommandAt
  pub at : CommandAt
  pub after : List CommandAt
  pub split : commands_in s ≡ before ++ at ∷ after
  pub fine : first_of (command_rows (raw_at s 7) before) ≡ Ok tt
  pub holds : faulty at.command ≡ true
  pub place : at.place ≡ p

-- the first command whose records do not fit, and those before it
pub record Overflow (s : List ℕ) (room p : ℕ) (before : List Step) : Type 0 where
  pub at : Step
  pub after : List Step
  pub split : steps_in s ≡ before ++ at ∷ after
  pub fit : length (words_along before) ≤ room
  pub past : room < length (words_along before) + length at.words
  pub place : at.place ≡ p

-- 6: the output is under 4 words, with word 4's figure; or records do not fit behind the header
pub data NoRoomWhen (s : List ℕ) (out : List ℤ) (p : ℕ) : Type 0 where
  small : Checked s → length out < 4 → p ≡ raw_at s 4 → NoRoomWhen s out p
  records : Checked s → 4 ≤ length out → (before : List Step) → Overflow s (length out - 4) p before →
      NoRoomWhen s out p

-- 0: otherwise
pub record OkWhen (s : List ℕ) (out : List ℤ) : Type 0 where
  pub checked : Checked s
  pub room : 4 + length (words_along (steps_in s)) ≤ length out

-- room that always suffices: ten words for each command, behind the header
abbrev pub Ample : List ℕ → List ℤ → Type 0
Ample s out = 4 + 10 * length (commands_in s) ≤ length out

abbrev pub When : List ℕ → List ℤ → Answer → Type 0
When s out (Ok tt) = OkWhen s out
When s out (Err (BadScript p)) = BadScriptWhen s p
When s out (Err BadScale) = BadScaleWhen s
When s out (Err (BadBlues p)) = BadBluesWhen s p
When s out (Err (BadCommand p)) = FaultWhen s is_bad p
When s out (Err (BadMask p)) = FaultWhen s (has_bad_mask (raw_at s 7)) p
When s out (Err (NoRoom p)) = NoRoomWhen s out p

-- ---- the words
-- on OK the header and the records, and the words past them as lent; refusals 1 to 5 change no
-- word; nor does an output of under 4 words, and NO_ROOM in a run keeps earlier commands' records
-- from word 4, every other word as lent
abbrev pub Left : (s : List ℕ) (out : List ℤ) (a : Answer) → When s out a → List ℤ
Left s out (Ok tt) w = written (result_words (words_along (steps_in s))) out
Left s out (Err (BadScript p)) w = out
Left s out (Err BadScale) w = out
Left s out (Err (BadBlues p)) w = out
Left s out (Err (BadCommand p)) w = out
Left s out (Err (BadMask p)) w = out
Left s out (Err (NoRoom p)) (small c h e) = out
Left s out (Err (NoRoom p)) (records c h before o) = take 4 out ++ written (words_along before) (drop 4 out)
