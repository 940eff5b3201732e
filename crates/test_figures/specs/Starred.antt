-- The figures that 01 stars ("Marked figures"), in one list: beside what 01 says stands what the
-- definitions give. A later part adds its rows here.
use Rattle.std.specs.Prelude.{◌≡◌, Bool, true, false, List, [], ◌∷◌, ◌++◌, map, ℕ, zero, suc, ◌*◌, pos, negsuc}
use Rattle.std.specs.Prelude.{replicate}
use Rattle.fixed.specs.declared.Fixed.{Fixed}
use Rattle.fixed.specs.Fixed.{from_bits, mul_f, round_f, trunc_f}
use Rattle.stems.specs.declared.mask.HintMask.{HintMask}
use Rattle.stems.specs.declared.edge.StemHint.{StemHint}
use Rattle.stems.specs.declared.edge.Hint.{Hint}
use Rattle.stems.specs.declared.edge.Shape.{Shape}
use Rattle.stems.specs.declared.edge.Shape.TheVariants.{BottomGhost, TopGhost, Pair}
use Rattle.stems.specs.Mask.{all_active, mask_of, is_active}
use Rattle.stems.specs.Edge.{shape_of}
use Rattle.zones.specs.declared.blues.Blues.{Blues}
use Rattle.zones.specs.declared.state.HintState.{HintState}
use Rattle.zones.specs.State.{boost_of, state_of}
use Rattle.hintmap.specs.declared.map.HintMap.{HintMap}
use Rattle.hintmap.specs.Map.{view, map_of}
use Rattle.stems.specs.declared.edge.Stems.{Stems}
use Rattle.build.specs.Build.{initial_of, built_of}

-- a figure: what 01 says, and what the definitions give
pub record Figure : Type 1 where
  pub Of : Type 0
  pub said : Of
  pub given : Of

-- every figure of a list is what the definitions give
abbrev pub AllHold : List Figure → Type 0
AllHold [] = Unit {0}
AllHold (r ∷ rs) = (r.given ≡ r.said) × AllHold rs

-- a whole number, and a number of bits
abbrev pub whole : ℕ → Fixed
whole n = from_bits (pos (n * 65536))

abbrev pub bits : ℕ → Fixed
bits n = from_bits (pos n)

-- a mask's answer for each of the first n stems, the last one first
abbrev pub answers : HintMask → ℕ → List Bool
answers m zero = []
answers m (suc n) = is_active m n ∷ answers m n

-- a stem that is declared and not used
abbrev pub declared : Fixed → Fixed → StemHint
declared min max = record { is_used = false; min = min; max = max; ds_min = bits 0; ds_max = bits 0 }

-- no blues in group 0, with a blue scale, and the map that one stem from 16 to 80 gives at a scale
-- of 2048 bits
abbrev pub no_blues : Blues
no_blues = record { pairs = replicate 7 (record { bottom = bits 0; top = bits 0 }); count = 0 }

abbrev pub plain : HintState
plain =
    state_of (record {
      blue_scale = bits 2597;
      blue_shift = whole 7;
      blue_fuzz = whole 1;
      language_group = pos 0;
      blues = no_blues;
      other_blues = no_blues;
      family_blues = no_blues;
      family_other_blues = no_blues;
    })
    (bits 2048)

abbrev pub one_stem : Stems
one_stem = record { list = declared (whole 16) (whole 80) ∷ replicate 95 (declared (bits 0) (bits 0)); count = 1 }

abbrev pub fitted : HintMap
fitted = (built_of plain all_active (initial_of plain one_stem) one_stem).map

abbrev pub rows : List Figure
rows =
    -- a mask of no bytes, one of thirteen, and one whose only set bit is the first
    record { Of = List Bool; said = replicate 96 false; given = answers (mask_of []) 96 }
    ∷ record { Of = List Bool; said = replicate 96 true; given = answers (mask_of (replicate 13 0)) 96 }
    ∷ record { Of = List Bool; said = replicate 95 false ++ true ∷ []; given = answers (mask_of (128 ∷ [])) 96 }
    -- stems from 100 down to 79, to 80 and to 78
    ∷ record { Of = Shape; said = BottomGhost (whole 79); given = shape_of (declared (whole 100) (whole 79)) }
    ∷ record { Of = Shape; said = TopGhost (whole 100); given = shape_of (declared (whole 100) (whole 80)) }
    ∷ record { Of = Shape; said = Pair (whole 78) (whole 100); given = shape_of (declared (whole 100) (whole 78)) }
    -- that map's device heights, and where it carries 0 and 48
    ∷ record { Of = List Fixed; said = whole 1 ∷ whole 3 ∷ []; given = map (λ (e : Hint). e.ds_coord) (view fitted) }
    ∷ record {
      Of = List Fixed;
      said = bits 32768 ∷ whole 2 ∷ [];
      given = map_of (view fitted) (bits 2048) (whole 0) ∷ map_of (view fitted) (bits 2048) (whole 48) ∷ [];
    }
    -- the boost of blue scale 2597 at scale 2048 and at scale 1
    ∷ record { Of = Fixed; said = bits 8313; given = boost_of (bits 2048) (bits 2597) }
    ∷ record { Of = Fixed; said = bits 32767; given = boost_of (bits 1) (bits 2597) }
    -- the output of 1023, of 1024 and of −1
    ∷ record { Of = Fixed; said = bits 0; given = trunc_f (bits 1023) }
    ∷ record { Of = Fixed; said = bits 1024; given = trunc_f (bits 1024) }
    ∷ record { Of = Fixed; said = from_bits (negsuc 1023); given = trunc_f (from_bits (negsuc 0)) }
    -- −0.5 rounded
    ∷ record { Of = Fixed; said = bits 0; given = round_f (from_bits (negsuc 32767)) }
    -- the product of −1 bit and 0.5
    ∷ record { Of = Fixed; said = from_bits (negsuc 0); given = mul_f (from_bits (negsuc 0)) (bits 32768) }
    ∷ []
