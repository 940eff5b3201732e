-- What the numbers of a row say. A row has 0 past its end.
use Rattle.std.specs.Prelude.{ℕ, zero, suc, ◌+◌, ◌*◌, min, Bool, List, [], ◌∷◌, ℤ, pos, negsuc, slice_index_or}
use Rattle.fixed.specs.declared.Fixed.{Fixed}
use Rattle.fixed.specs.Fixed.{from_bits, same_f, max_f}
use Rattle.stems.specs.declared.edge.Kind.{Kind}
use Rattle.stems.specs.declared.edge.Kind.TheVariants.{Absent, GhostBottom, GhostTop, PairBottom, PairTop}
use Rattle.stems.specs.declared.mask.HintMask.{HintMask}
use Rattle.stems.specs.Mask.{mask_of}
use Rattle.zones.specs.declared.blues.Blue.{Blue}
use Rattle.zones.specs.declared.blues.Blues.{Blues}
use Rattle.zones.specs.declared.state.HintParams.{HintParams}
use Rattle.zones.specs.declared.state.HintState.{HintState}
use Rattle.zones.specs.State.{state_of}

-- ---- one number
-- the number at a place, or 0 past the row's end
abbrev pub number_in : List ℤ → ℕ → ℤ
number_in row at = slice_index_or row at (pos 0)

-- the same as the bits of a 16.16 number
abbrev pub fixed_in : List ℤ → ℕ → Fixed
fixed_in row at = from_bits (number_in row at)

-- whether it is 1
abbrev pub flag_in : List ℤ → ℕ → Bool
flag_in row at = same_f (fixed_in row at) (from_bits (pos 1))

-- a number without its sign, 0 for one below 0
unfoldable pub whole_of : ℤ → ℕ
whole_of (pos n) = n
whole_of (negsuc n) = 0

-- a number as a count, at most so many
abbrev pub count_in : List ℤ → ℕ → ℕ → ℕ
count_in row at most = min most (whole_of (number_in row at))

-- ---- parameters
-- a pair: the bottom, then the top
abbrev pub pair_in : List ℤ → ℕ → Blue
pair_in row at = record { bottom = fixed_in row at; top = fixed_in row (at + 1) }

-- seven pairs from a place on
abbrev pub pairs_in : List ℤ → ℕ → List Blue
pairs_in row at =
    pair_in row at ∷
    pair_in row (at + 2) ∷
    pair_in row (at + 4) ∷
    pair_in row (at + 6) ∷
    pair_in row (at + 8) ∷
    pair_in row (at + 10) ∷
    pair_in row (at + 12) ∷
    []

-- the same as a list of which so many count
unfoldable pub blues_in : List ℤ → ℕ → ℕ → Blues
blues_in row at n = record { pairs = pairs_in row at; count = n }

-- four lists one behind the other, from place 10 on: where the other blues start, after the blues
abbrev pub others_at : List ℤ → ℕ → ℕ
others_at row most = 10 + 2 * count_in row 6 most

-- where the family blues start
abbrev pub family_at : List ℤ → ℕ → ℕ
family_at row most = others_at row most + 2 * count_in row 7 most

-- where the family other blues start
abbrev pub family_others_at : List ℤ → ℕ → ℕ
family_others_at row most = family_at row most + 2 * count_in row 8 most

-- the place after the four lists
abbrev pub after_pairs_in : List ℤ → ℕ → ℕ
after_pairs_in row most = family_others_at row most + 2 * count_in row 9 most

-- from place 2 on: blue scale, shift, fuzz and group, the four counts, each at most so many, the
-- lists
unfoldable pub params_in : List ℤ → ℕ → HintParams
params_in row most =
    record {
      blue_scale = fixed_in row 2;
      blue_shift = fixed_in row 3;
      blue_fuzz = fixed_in row 4;
      language_group = number_in row 5;
      blues = blues_in row 10 (count_in row 6 most);
      other_blues = blues_in row (others_at row most) (count_in row 7 most);
      family_blues = blues_in row (family_at row most) (count_in row 8 most);
      family_other_blues = blues_in row (family_others_at row most) (count_in row 9 most);
    }

-- the state of the parameters, at most seven pairs a list, at the scale of place 1, or one bit
-- where that is greater
unfoldable pub state_in : List ℤ → HintState
state_in row = state_of (params_in row 7) (max_f (fixed_in row 1) (from_bits (pos 1)))

-- ---- masks
-- so many bytes from a place on, each at most 255
unfoldable pub bytes_in : List ℤ → ℕ → ℕ → List ℕ
bytes_in row at zero = []
bytes_in row at (suc n) = count_in row at 255 ∷ bytes_in row (at + 1) n

-- the mask of a count, at most 13, and so many bytes after it
unfoldable pub mask_in : List ℤ → ℕ → HintMask
mask_in row at = mask_of (bytes_in row (at + 1) (count_in row at 13))

-- ---- kinds
-- the number of a kind of edge
abbrev pub kind_number : Kind → ℤ
kind_number Absent = pos 0
kind_number GhostBottom = pos 1
kind_number GhostTop = pos 2
kind_number PairBottom = pos 3
kind_number PairTop = pos 4
