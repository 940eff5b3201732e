-- Parameters as 64 words, each list at its own place: blue scale, shift, fuzz, language group, four
-- counts, then four lists of seven pairs. Words that are missing count as 0, and further ones are not
-- read.
use Rattle.std.specs.Prelude.{List, ℕ, ℤ}
use Rattle.zones.specs.declared.blues.Blues.{Blues}
use Rattle.zones.specs.declared.state.HintParams.{HintParams}
use Rattle.zones.specs.Zones.{max_blues}
use Rattle.words.specs.Words.{given_word, word_at, number_at}
use Rattle.header.specs.Params.{pairs_from}

-- the list from word i on, whose count is word n
abbrev pub blues_in : (ℕ → ℕ) → ℕ → ℕ → Blues
blues_in w i n = record { pairs = pairs_from w i max_blues; count = w n }

unfoldable pub params_in : List ℤ → HintParams
params_in ws =
    record {
      blue_scale = number_at (given_word ws) 0;
      blue_shift = number_at (given_word ws) 1;
      blue_fuzz = number_at (given_word ws) 2;
      language_group = word_at (given_word ws) 3;
      blues = blues_in (given_word ws) 8 4;
      other_blues = blues_in (given_word ws) 22 5;
      family_blues = blues_in (given_word ws) 36 6;
      family_other_blues = blues_in (given_word ws) 50 7;
    }
