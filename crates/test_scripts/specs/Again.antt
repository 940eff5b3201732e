-- What becomes of a script that is read back and written again.
use Rattle.std.specs.Prelude.{ℕ, Bool, true, false, cond, ◌&&◌, List, [], ◌∷◌, length, take, ℤ, ◌==◌}
use Rattle.words.specs.Answers.{refuses}
use Rattle.writer.specs.Refusals.{WriteAnswer}
use Rattle.writer.specs.ToWrite.{Given, given}
use Rattle.writer.specs.Refusals.{written_bytes, write_refuses, write_of}
use Rattle.readback.specs.ReadBack.{ReadResult, read_back_of}
use Rattle.test_scripts.specs.declared.again.Again.{Again}
use Rattle.test_scripts.specs.declared.again.Again.TheVariants.{NotRead, SameBytes, OtherBytes, Refused}

unfoldable pub same_bytes : List ℕ → List ℕ → Bool
same_bytes [] [] = true
same_bytes [] (y ∷ ys) = false
same_bytes (x ∷ xs) [] = false
same_bytes (x ∷ xs) (y ∷ ys) = x == y && same_bytes xs ys

-- the same bytes are as many as the script has, and each is the script's
unfoldable pub written_as : List ℕ → WriteAnswer → List ℕ → Again
written_as s answer left =
    cond (write_refuses answer) Refused
    (cond (written_bytes answer == length s && same_bytes left s) SameBytes OtherBytes)

-- what the reader says and leaves, as the writer takes it
abbrev pub given_back : ReadResult → Given
given_back r =
    given r.said.scale r.said.params (take r.said.commands r.commands)
    (take r.said.masks r.masks)

-- what it becomes, of what was read back and the buffer to write into
abbrev pub after_reading : List ℕ → ReadResult → List ℕ → Again
after_reading s r written =
    cond (refuses r.said.answer) NotRead
    (written_as s (write_of (given_back r) written).answer (write_of (given_back r) written).left)

-- a script, buffers for command words and mask bytes, and one to write into
unfoldable pub write_again_of : List ℕ → List ℤ → List ℕ → List ℕ → Again
write_again_of s commands masks written = after_reading s (read_back_of s commands masks) written
