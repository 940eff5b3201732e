-- The header of a script (01's table, BAD_SCRIPT). Counts and offsets are read as numbers below
-- 2^32, and are negative from 2^31 on; their sums are exact.
use Rattle.std.specs.Prelude.{Bool, true, not, ◌&&◌, ◌||◌, List, [], ◌∷◌, ℕ, ◌+◌, ◌*◌, ◌/◌, ◌%◌, eqb, ltb, length, drop}
use Rattle.std.specs.Prelude.{Err}
use Rattle.words.specs.declared.answer.Refusal.TheVariants.{BadScript}
use Rattle.words.specs.Words.{raw_at, negative}
use Rattle.words.specs.Rows.{Row, row}
use Rattle.words.specs.Answers.{Answer}

abbrev pub differs : ℕ → ℕ → Bool
differs a b = not (eqb a b)

abbrev pub outside : ℕ → ℕ → ℕ → Bool
outside a b n = ltb n a || ltb b n

-- under 32 or over 65,536 bytes, or not in fours
unfoldable pub length_bad : ℕ → Bool
length_bad n = outside 32 65536 n || differs (n % 4) 0

unfoldable pub all_zero : List ℕ → Bool
all_zero [] = true
all_zero (b ∷ bs) = eqb b 0 && all_zero bs

-- the words that so many bytes take
abbrev pub padded : ℕ → ℕ
padded n = (n + 3) / 4

-- the tests, in 01's order
unfoldable pub header_rows : List ℕ → List (Row Answer)
header_rows s =
    row (length_bad (length s)) (Err (BadScript 0)) ∷
    row (differs (raw_at s 0) 1) (Err (BadScript 0)) ∷
    row (differs (raw_at s 2) 8) (Err (BadScript 2)) ∷
    row (outside 8 64 (raw_at s 3)) (Err (BadScript 3)) ∷
    row (differs (raw_at s 4) (8 + raw_at s 3)) (Err (BadScript 4)) ∷
    row (negative (raw_at s 5) || ltb (length s / 4) (raw_at s 4 + raw_at s 5)) (Err (BadScript 5)) ∷
    row (differs (raw_at s 6) (raw_at s 4 + raw_at s 5)) (Err (BadScript 6)) ∷
    row (negative (raw_at s 7) || differs (raw_at s 6 + padded (raw_at s 7)) (length s / 4)) (Err (BadScript 7)) ∷
    row (not (all_zero (drop (4 * raw_at s 6 + raw_at s 7) s))) (Err (BadScript 7)) ∷
    []
