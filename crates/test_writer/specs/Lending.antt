-- What is lent to a call.
use Rattle.std.specs.Prelude.{ℕ, zero, suc, ◌+◌, ◌*◌, ◌%◌, ◌^◌, List, [], ◌∷◌, ◌++◌, ℤ}
use Rattle.fixed.specs.Integers.{signed}

-- what f gives for 0 to n − 1
unfoldable pub filled : {A : Type 0} → (ℕ → A) → ℕ → List A
filled f zero = []
filled f (suc n) = filled f n ++ (f n ∷ [])

-- byte i: the fill, and 37 for each byte before it
abbrev pub lent_byte : ℕ → ℕ → ℕ
lent_byte fill i = (fill + 37 * i) % 2 ^ 8

-- word i: 16777619 times the fill, and 0x9E3779B1 for each word before it
abbrev pub lent_word : ℕ → ℕ → ℤ
lent_word fill i = signed ((16777619 * fill + 2654435761 * i) % 2 ^ 32)
