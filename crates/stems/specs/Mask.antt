-- Masks (01, "Stems and masks", second paragraph): twelve bytes, a bit for each of 96 stems.
use Rattle.std.specs.Prelude.{◌≡◌, Bool, true, false, cond, ◌&&◌, List, [], ◌∷◌, ◌++◌, ℕ, zero, suc, ◌-◌, ◌/◌, ◌%◌, ◌^◌}
use Rattle.std.specs.Prelude.{eqb, ltb, length, get_or, set, replicate}
use Rattle.stems.specs.declared.mask.HintMask.{HintMask}
use Rattle.stems.specs.Edge.{max_hints}

-- the bytes of a mask: a bit for each stem
abbrev pub mask_size : ℕ
mask_size = 12

abbrev pub of_bytes : List ℕ → HintMask
of_bytes bs = record { bytes = bs }

-- every stem
abbrev pub all_active : HintMask
all_active = of_bytes (replicate mask_size 255)

-- over twelve bytes every stem is active; a shorter mask is filled with zeros
unfoldable pub mask_of : List ℕ → HintMask
mask_of bs = cond (ltb mask_size (length bs)) all_active (of_bytes (bs ++ replicate (mask_size - length bs) 0))

-- the byte that holds a stem's bit, and the bit's weight there: stem 0 has the most significant of
-- the first byte
abbrev pub byte_of : HintMask → ℕ → ℕ
byte_of m i = get_or m.bytes (i / 8) 0

abbrev pub weight : ℕ → ℕ
weight i = 2 ^ (7 - i % 8)

unfoldable pub is_active : HintMask → ℕ → Bool
is_active m i = eqb (byte_of m i / weight i % 2) 1

-- the first active stem of the n from stem i on, or the one behind them
unfoldable pub first_from : HintMask → ℕ → ℕ → ℕ
first_from m i zero = i
first_from m i (suc n) = cond (is_active m i) i (first_from m (suc i) n)

-- the first active stem, or 96
abbrev pub first_active : HintMask → ℕ
first_active m = first_from m 0 max_hints

-- the mask without a stem: its bit cleared, where it is set
abbrev pub without : HintMask → ℕ → HintMask
without m i = of_bytes (set m.bytes (i / 8) (byte_of m i - weight i))

unfoldable pub cleared : HintMask → ℕ → HintMask
cleared m i = cond (is_active m i) (without m i) m

-- the mask without its first active stem, where it has one
unfoldable pub without_first : HintMask → HintMask
without_first m = cond (ltb (first_active m) max_hints) (cleared m (first_active m)) m

-- the first active stem is taken: its number, or 96, and the mask that is left
pub record TookFirst (m : HintMask) (r : ℕ) (left : HintMask) : Type 0 where
  pub stem : r ≡ first_active m
  pub mask : left ≡ without_first m

-- the same bytes
unfoldable pub same_bytes : List ℕ → List ℕ → Bool
same_bytes [] [] = true
same_bytes (x ∷ xs) (y ∷ ys) = eqb x y && same_bytes xs ys
same_bytes [] (y ∷ ys) = false
same_bytes (x ∷ xs) [] = false

abbrev pub same_mask : HintMask → HintMask → Bool
same_mask m n = same_bytes m.bytes n.bytes
