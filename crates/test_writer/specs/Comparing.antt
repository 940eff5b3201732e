-- What a call leaves and says, compared with what is stored.
use Rattle.std.specs.Prelude.{ℕ, Bool, ◌&&◌, List, ◌==◌, slice_index, slice_index_or}
use Rattle.fixed.specs.Fixed.{from_bits, same_f}
use Rattle.zones.specs.declared.blues.Blue.{Blue}
use Rattle.zones.specs.declared.blues.Blues.{Blues}
use Rattle.zones.specs.declared.state.HintParams.{HintParams}
use Rattle.zones.specs.Zones.{max_blues, no_blue}
use Rattle.test_tables.specs.Differing.{first_different}

-- ---- bytes
-- byte i is the stored one
abbrev pub same_byte : List ℕ → List ℕ → ℕ → Bool
same_byte left stored i = slice_index left i == slice_index stored i

-- ---- parameters
abbrev pub same_pair : Blue → Blue → Bool
same_pair a b = same_f a.bottom b.bottom && same_f a.top b.top

abbrev pub pairs_agree : Blues → Blues → ℕ → Bool
pairs_agree a b i = same_pair (slice_index_or a.pairs i no_blue) (slice_index_or b.pairs i no_blue)

-- the counts, and all seven pairs
unfoldable pub same_blues : Blues → Blues → Bool
same_blues a b = a.count == b.count && first_different (pairs_agree a b) max_blues == max_blues

unfoldable pub same_numbers : HintParams → HintParams → Bool
same_numbers a b =
    same_f a.blue_scale b.blue_scale &&
    (same_f a.blue_shift b.blue_shift &&
    (same_f a.blue_fuzz b.blue_fuzz &&
    same_f (from_bits a.language_group) (from_bits b.language_group)))

unfoldable pub same_params : HintParams → HintParams → Bool
same_params a b =
    same_numbers a b &&
    (same_blues a.blues b.blues &&
    (same_blues a.other_blues b.other_blues &&
    (same_blues a.family_blues b.family_blues &&
    same_blues a.family_other_blues b.family_other_blues)))
