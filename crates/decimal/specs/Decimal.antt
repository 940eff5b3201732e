-- Numbers as text, in ASCII: whole ones, and those in 16.16 with every digit that they have.
use Rattle.std.specs.Prelude.{◌≡◌, ℕ, zero, suc, ◌+◌, ◌-◌, ◌*◌, ◌/◌, ◌%◌, ◌^◌, ◌≤◌, cond, List, [], ◌∷◌, ◌++◌, length}
use Rattle.std.specs.Prelude.{ℤ, pos, negsuc, ◌==◌, nat_lt}
use Rattle.words.specs.Bytes.{placed}

-- some text at a place of some bytes, and where it ends
pub record Put (text : List ℕ) (at : ℕ) (bytes : List ℕ) (end : ℕ) (left : List ℕ) : Type 0 where
  pub ends : end ≡ at + length text
  pub memory : left ≡ placed bytes at text

-- the same if there is room
abbrev pub PutInRoom : List ℕ → ℕ → List ℕ → ℕ → List ℕ → Type 0
PutInRoom text at bytes end left = at + length text ≤ length bytes → Put text at bytes end left

-- the last f digits of a number at most, the highest first, without zeros in front
unfoldable pub digits_by : ℕ → ℕ → List ℕ
digits_by zero n = []
digits_by (suc f) n = cond (nat_lt n 10) [] (digits_by f (n / 10)) ++ ((48 + n % 10) ∷ [])

-- a whole number of 32 bits
abbrev pub number_text : ℕ → List ℕ
number_text n = digits_by 10 n

-- the digits of n 65536ths, f of them at most, without zeros behind
unfoldable pub fraction_by : ℕ → ℕ → List ℕ
fraction_by zero n = []
fraction_by (suc f) n = cond (n == 0) [] ((48 + n * 10 / 65536) ∷ fraction_by f (n * 10 % 65536))

-- so many 65536ths: the whole ones and, if there is a rest, a point and its digits
unfoldable pub size_text : ℕ → List ℕ
size_text n = number_text (n / 65536) ++ cond (n % 65536 == 0) [] (46 ∷ fraction_by 16 (n % 65536))

-- a number in 16.16 by its bits
unfoldable pub decimal_text : ℤ → List ℕ
decimal_text (pos n) = size_text n
decimal_text (negsuc n) = 45 ∷ size_text (suc n)

-- ---- what a text is worth
-- the number that digits say, behind those that said n
unfoldable pub read_on : ℕ → List ℕ → ℕ
read_on n [] = n
read_on n (d ∷ ds) = read_on (10 * n + (d - 48)) ds

-- what digits behind a point say, in 10 ^ f parts
unfoldable pub read_behind : ℕ → List ℕ → ℕ
read_behind zero ds = 0
read_behind (suc f) [] = 0
read_behind (suc f) (d ∷ ds) = (d - 48) * 10 ^ f + read_behind f ds
