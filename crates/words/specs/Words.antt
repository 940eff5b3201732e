-- Words of a script (01, "The script"): four bytes, the least first.
use Rattle.std.specs.Prelude.{Bool, List, [], ◌∷◌, ℕ, zero, suc, ◌+◌, ◌*◌, ◌^◌, leb, get_or, ℤ, pos}
use Rattle.fixed.specs.declared.Fixed.{Fixed}
use Rattle.fixed.specs.Integers.{bits_of, signed}
use Rattle.fixed.specs.Fixed.{from_bits}

-- word i as a number from 0 to 2^32 − 1
unfoldable pub raw_at : List ℕ → ℕ → ℕ
raw_at s i =
    get_or s (4 * i) 0 + get_or s (4 * i + 1) 0 * 256 + get_or s (4 * i + 2) 0 * 65536 + get_or s (4 * i + 3) 0 *
    16777216

-- 32 bits are negative from 2^31 on
abbrev pub negative : ℕ → Bool
negative n = leb (2 ^ 31) n

-- word i of a list of words, or 0 past its end
abbrev pub given_word : List ℤ → ℕ → ℕ
given_word ws i = bits_of (get_or ws i (pos 0))

-- the rest is said of words, whatever gives word i: a script's bytes, by raw_at, or a list of words,
-- by given_word
-- word i, signed
abbrev pub word_at : (ℕ → ℕ) → ℕ → ℤ
word_at w i = signed (w i)

-- word i as a number in 16.16
abbrev pub number_at : (ℕ → ℕ) → ℕ → Fixed
number_at w i = from_bits (word_at w i)

-- n words from word i on
unfoldable pub words_from : (ℕ → ℕ) → ℕ → ℕ → List ℕ
words_from w i zero = []
words_from w i (suc n) = w i ∷ words_from w (i + 1) n
