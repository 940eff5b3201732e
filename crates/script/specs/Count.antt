-- How many records there are in some words (01, "Path records"): 1 move x y; 2 line x y; 3 curve
-- and six; 4 close; 5 finish.
use Rattle.std.specs.Prelude.{Bool, true, false, ◌||◌, List, [], ◌∷◌, ℕ, zero, suc, ◌-◌, eqb, ℤ, pos, negsuc, length}
use Rattle.std.specs.Prelude.{drop}

abbrev pub size_by : Bool → Bool → ℕ
size_by true curve = 3
size_by false true = 7
size_by false false = 1

-- the words that a record takes, by its first word
unfoldable pub size_of : ℤ → ℕ
size_of (pos n) = size_by (eqb n 1 || eqb n 2) (eqb n 3)
size_of (negsuc n) = 1

-- the records in some words, of which there are at most f
unfoldable pub records_by : ℕ → List ℤ → ℕ
records_by zero ws = 0
records_by (suc f) [] = 0
records_by (suc f) (w ∷ ws) = suc (records_by f (drop (size_of w - 1) ws))

unfoldable pub records_in : List ℤ → ℕ
records_in ws = records_by (length ws) ws
