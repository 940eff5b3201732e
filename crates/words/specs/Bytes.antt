-- Words as bytes, four each, the least first; and what is written over what is lent.
use Rattle.std.specs.Prelude.{List, [], ◌∷◌, ◌++◌, ℕ, ◌+◌, ◌*◌, ◌/◌, ◌%◌, length, take, drop}

abbrev pub word_bytes : ℕ → List ℕ
word_bytes n = n % 256 ∷ n / 256 % 256 ∷ n / 65536 % 256 ∷ n / 16777216 % 256 ∷ []

unfoldable pub bytes_of : List ℕ → List ℕ
bytes_of [] = []
bytes_of (w ∷ ws) = word_bytes w ++ bytes_of ws

-- what is written at the start of what is lent, whose rest stands
unfoldable pub over : {A : Type 0} → List A → List A → List A
over xs lent = xs ++ drop (length xs) lent

-- some entries from place i on; those before and behind them stand
unfoldable pub placed : {A : Type 0} → List A → ℕ → List A → List A
placed lent i xs = take i lent ++ (xs ++ drop (i + length xs) lent)

-- some words laid over bytes from word i on; the bytes before and behind them stand
unfoldable pub laid : List ℕ → ℕ → List ℕ → List ℕ
laid bytes i ws = take (4 * i) bytes ++ (bytes_of ws ++ drop (4 * i + 4 * length ws) bytes)
