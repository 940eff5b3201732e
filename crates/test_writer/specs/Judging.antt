-- How what is written or read back is judged by what is stored for it: what first differs, in this
-- order. A case starts with nine words.
use Rattle.std.specs.Prelude.{ℕ, not, List, [], ◌∷◌, length, ℤ, nat_lt, Option, Some, None}
use Rattle.fixed.specs.Fixed.{same_f}
use Rattle.words.specs.Words.{raw_at, number_at}
use Rattle.words.specs.Rows.{Row, row, first_or}
use Rattle.words.specs.Answers.{number_of, place_of}
use Rattle.header.specs.Header.{differs}
use Rattle.writer.specs.Refusals.{WriteAnswer}
use Rattle.writer.specs.ParamWords.{params_in}
use Rattle.writer.specs.Refusals.{WriteResult, write_number, write_place, written_bytes}
use Rattle.readback.specs.declared.reading_back.ReadBack.{ReadBack}
use Rattle.readback.specs.ReadBack.{ReadResult}
use Rattle.test_tables.specs.Differing.{first_different, first_word}
use Rattle.test_writer.specs.declared.judging.Difference.{Difference}
use Rattle.test_writer.specs.declared.judging.Difference.TheVariants.{Number, Place, Written, Commands}
use Rattle.test_writer.specs.declared.judging.Difference.TheVariants.{Masks, Scale, Params, Word, Byte}
use Rattle.test_writer.specs.Comparing.{same_byte, same_params}

-- ---- buffers
-- the first byte that differs from those stored
abbrev pub first_byte : List ℕ → List ℕ → ℕ
first_byte left stored = first_different (same_byte left stored) (length left)

abbrev pub byte_row : List ℕ → List ℕ → Row (Option Difference)
byte_row left stored = row (nat_lt (first_byte left stored) (length left)) (Some (Byte (first_byte left stored)))

-- the first word that does
abbrev pub word_row : List ℤ → List ℕ → Row (Option Difference)
word_row left stored = row (nat_lt (first_word left stored) (length left)) (Some (Word (first_word left stored)))

-- ---- writing: the number is at word 5, the place at word 6, the bytes written at word 7
abbrev pub writing : WriteAnswer → List ℕ → WriteResult
writing answer left = record { answer = answer; left = left }

unfoldable pub write_rows : List ℕ → List ℕ → WriteResult → List (Row (Option Difference))
write_rows head stored r =
    row (differs (write_number r.answer) (raw_at head 5)) (Some Number) ∷
    row (differs (write_place r.answer) (raw_at head 6)) (Some Place) ∷
    row (differs (written_bytes r.answer) (raw_at head 7)) (Some Written) ∷
    byte_row r.left stored ∷
    []

abbrev pub write_verdict : List ℕ → List ℕ → WriteResult → Option Difference
write_verdict head stored r = first_or None (write_rows head stored r)

-- ---- reading: the number is at word 4, the place at word 5, the count of command words at word 6,
-- that of mask bytes at word 7, the scale at word 8
abbrev pub reading : ReadBack → List ℤ → List ℕ → ReadResult
reading said commands masks = record { said = said; commands = commands; masks = masks }

unfoldable pub read_rows : List ℕ → List ℤ → List ℕ → List ℕ → ReadResult → List (Row (Option Difference))
read_rows head params words bytes r =
    row (differs (number_of r.said.answer) (raw_at head 4)) (Some Number) ∷
    row (differs (place_of r.said.answer) (raw_at head 5)) (Some Place) ∷
    row (differs r.said.commands (raw_at head 6)) (Some Commands) ∷
    row (differs r.said.masks (raw_at head 7)) (Some Masks) ∷
    row (not (same_f r.said.scale (number_at (raw_at head) 8))) (Some Scale) ∷
    row (not (same_params r.said.params (params_in params))) (Some Params) ∷
    word_row r.commands words ∷
    byte_row r.masks bytes ∷
    []

abbrev pub read_verdict : List ℕ → List ℤ → List ℕ → List ℕ → ReadResult → Option Difference
read_verdict head params words bytes r = first_or None (read_rows head params words bytes r)
