-- What differs first from what is stored.
use Rattle.std.specs.Prelude.{ℕ, zero, suc, Bool, cond, List, length, ℤ, pos, slice_index_or}
use Rattle.fixed.specs.Fixed.{from_bits, same_f}
use Rattle.words.specs.Words.{raw_at, number_at}

-- ---- the first of n from i on that does not agree, or where they end
unfoldable pub first_from : (ℕ → Bool) → ℕ → ℕ → ℕ
first_from agrees i zero = i
first_from agrees i (suc n) = cond (agrees i) (first_from agrees (suc i) n) i

-- of the first n
abbrev pub first_different : (ℕ → Bool) → ℕ → ℕ
first_different agrees n = first_from agrees 0 n

-- ---- words
-- word i is the stored one
abbrev pub same_word : List ℤ → List ℕ → ℕ → Bool
same_word left stored i = same_f (from_bits (slice_index_or left i (pos 0))) (number_at (raw_at stored) i)

-- the first word that is not
abbrev pub first_word : List ℤ → List ℕ → ℕ
first_word left stored = first_different (same_word left stored) (length left)
