-- What the writer is given, and the script that it writes (request 1; the layout is 01's, "The
-- script").
use Rattle.std.specs.Prelude.{List, [], ◌∷◌, ◌++◌, map, ℕ, ◌+◌, ◌-◌, ◌*◌, ℤ, length, replicate}
use Rattle.fixed.specs.declared.Fixed.{Fixed}
use Rattle.fixed.specs.Integers.{bits_of}
use Rattle.zones.specs.declared.blues.Blue.{Blue}
use Rattle.zones.specs.declared.state.HintParams.{HintParams}
use Rattle.zones.specs.Zones.{list_of}
use Rattle.words.specs.Bytes.{bytes_of}
use Rattle.header.specs.Header.{padded}
use Rattle.writer.specs.Pieces.{Piece, pieces_of, joined, given_operands, starts_from}

pub record Given : Type 0 where
  pub scale : Fixed
  pub params : HintParams
  pub commands : List ℤ
  pub masks : List ℕ

abbrev pub given : Fixed → HintParams → List ℤ → List ℕ → Given
given scale params commands masks =
    record { scale = scale; params = params; commands = commands; masks = masks }

-- ---- the words
abbrev pub number_word : Fixed → ℕ
number_word x = bits_of x.bits

unfoldable pub pair_words : List Blue → List ℕ
pair_words [] = []
pair_words (b ∷ bs) = number_word b.bottom ∷ number_word b.top ∷ pair_words bs

-- blue scale, shift, fuzz, language group, four counts
unfoldable pub number_words : HintParams → List ℕ
number_words p =
    number_word p.blue_scale ∷
    number_word p.blue_shift ∷
    number_word p.blue_fuzz ∷
    bits_of p.language_group ∷
    p.blues.count ∷
    p.other_blues.count ∷
    p.family_blues.count ∷
    p.family_other_blues.count ∷
    []

-- and behind them the pairs that count
unfoldable pub param_words : HintParams → List ℕ
param_words p =
    number_words p ++
    (pair_words (list_of p.blues) ++
    (pair_words (list_of p.other_blues) ++
    (pair_words (list_of p.family_blues) ++ pair_words (list_of p.family_other_blues))))

-- the commands as given, and with the starts of their masks
abbrev pub pieces_in : List ℤ → List Piece
pieces_in cs = pieces_of given_operands (map bits_of cs)

unfoldable pub command_words : List ℤ → List ℕ
command_words cs = joined (starts_from 0 (pieces_in cs))

-- version, scale, and where each part starts with how many words, or mask bytes, it has
abbrev pub header_words : Fixed → ℕ → ℕ → ℕ → List ℕ
header_words scale params commands bytes =
    1 ∷ number_word scale ∷ 8 ∷ params ∷ (8 + params) ∷ commands ∷ (8 + params + commands) ∷ bytes ∷ []

unfoldable pub script_words : Given → List ℕ
script_words g =
    header_words g.scale (length (param_words g.params)) (length (command_words g.commands))
    (length g.masks) ++
    (param_words g.params ++ command_words g.commands)

-- ---- the bytes
-- mask bytes, with zeros up to a whole word
unfoldable pub padded_bytes : List ℕ → List ℕ
padded_bytes bs = bs ++ replicate (4 * padded (length bs) - length bs) 0

unfoldable pub script_for : Given → List ℕ
script_for g = bytes_of (script_words g) ++ padded_bytes g.masks
