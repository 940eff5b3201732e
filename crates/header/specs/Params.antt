-- The parameters of a script (01, "The script"): blue scale, shift, fuzz, language group, four
-- counts, the pairs. They are said of words, whatever gives them; a script's are raw_at of its
-- bytes.
use Rattle.std.specs.Prelude.{List, [], ◌∷◌, ◌++◌, ℕ, zero, suc, ◌+◌, ◌-◌, ◌*◌, ◌≤◌, ltb, pos, length, replicate, Err}
use Rattle.fixed.specs.Fixed.{from_bits, less_f}
use Rattle.zones.specs.declared.blues.Blue.{Blue}
use Rattle.zones.specs.declared.blues.Blues.{Blues}
use Rattle.zones.specs.declared.state.HintParams.{HintParams}
use Rattle.zones.specs.Zones.{max_blues, no_blue}
use Rattle.words.specs.declared.answer.Refusal.TheVariants.{BadScript, BadScale, BadBlues}
use Rattle.words.specs.Words.{raw_at, word_at, number_at}
use Rattle.words.specs.Rows.{Row, row}
use Rattle.header.specs.Header.{differs}
use Rattle.words.specs.Answers.{Answer}

-- the pairs of all four lists
abbrev pub pairs_in : (ℕ → ℕ) → ℕ
pairs_in w = w 12 + w 13 + w 14 + w 15

-- the tests, in 01's order; a count that is negative is above 7 as a number below 2^32
unfoldable pub param_rows : (ℕ → ℕ) → List (Row Answer)
param_rows w =
    row (less_f (number_at w 1) (from_bits (pos 1))) (Err BadScale) ∷
    row (ltb max_blues (w 12)) (Err (BadBlues 12)) ∷
    row (ltb max_blues (w 13)) (Err (BadBlues 13)) ∷
    row (ltb max_blues (w 14)) (Err (BadBlues 14)) ∷
    row (ltb max_blues (w 15)) (Err (BadBlues 15)) ∷
    row (differs (w 3) (8 + 2 * pairs_in w)) (Err (BadScript 3)) ∷
    []

abbrev pub pair_at : (ℕ → ℕ) → ℕ → Blue
pair_at w i = record { bottom = number_at w i; top = number_at w (i + 1) }

-- n pairs from word i on
unfoldable pub pairs_from : (ℕ → ℕ) → ℕ → ℕ → List Blue
pairs_from w i zero = []
pairs_from w i (suc n) = pair_at w i ∷ pairs_from w (i + 2) n

-- the same as a list of seven, zeros behind them
unfoldable pub blues_at : (ℕ → ℕ) → ℕ → ℕ → Blues
blues_at w i n = record { pairs = pairs_from w i n ++ replicate (max_blues - n) no_blue; count = n }

-- the lists stand one behind the other: blues, other blues, family blues, family other blues
unfoldable pub params_of : (ℕ → ℕ) → HintParams
params_of w =
    record {
      blue_scale = number_at w 8;
      blue_shift = number_at w 9;
      blue_fuzz = number_at w 10;
      language_group = word_at w 11;
      blues = blues_at w 16 (w 12);
      other_blues = blues_at w (16 + 2 * w 12) (w 13);
      family_blues = blues_at w (16 + 2 * w 12 + 2 * w 13) (w 14);
      family_other_blues = blues_at w (16 + 2 * w 12 + 2 * w 13 + 2 * w 14) (w 15);
    }

-- what a script with a fine header and fine counts has: at most seven pairs a list, and all of them
-- in the script
pub record WholeParams (s : List ℕ) : Type 0 where
  pub blues : raw_at s 12 ≤ max_blues
  pub others : raw_at s 13 ≤ max_blues
  pub family : raw_at s 14 ≤ max_blues
  pub family_others : raw_at s 15 ≤ max_blues
  pub there : 4 * (16 + 2 * pairs_in (raw_at s)) ≤ length s
