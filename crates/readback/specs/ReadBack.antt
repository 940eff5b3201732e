-- A script read back as what the writer takes (request 1).
use Rattle.std.specs.Prelude.{◌≡◌, Bool, true, false, List, [], ◌∷◌, ◌++◌, map, ℕ, ◌+◌, ◌*◌, ◌≤◌, ltb, ℤ, pos, length}
use Rattle.std.specs.Prelude.{Err}
use Rattle.std.specs.Prelude.{take, drop, replicate}
use Rattle.fixed.specs.Integers.{signed}
use Rattle.fixed.specs.Fixed.{ZERO}
use Rattle.zones.specs.declared.blues.Blues.{Blues}
use Rattle.zones.specs.declared.state.HintParams.{HintParams}
use Rattle.zones.specs.Zones.{max_blues, no_blue}
use Rattle.words.specs.declared.answer.Refusal.TheVariants.{NoRoom}
use Rattle.words.specs.Words.{raw_at, number_at, words_from}
use Rattle.words.specs.Rows.{Row, row}
use Rattle.words.specs.Answers.{Answer, first_of, refuses}
use Rattle.words.specs.Bytes.{over}
use Rattle.header.specs.Params.{params_of}
use Rattle.commands.specs.Commands.{operands_of}
use Rattle.script.specs.Script.{check_rows}
use Rattle.writer.specs.Pieces.{Piece, pieces_of, joined, Whole, unstarted}
use Rattle.writer.specs.ToWrite.{Given, given}
use Rattle.readback.specs.declared.reading_back.ReadBack.{ReadBack}

-- ---- what a script says
-- the pieces of n words from word i on, whatever gives them
abbrev pub pieces_from : (ℕ → ℕ) → ℕ → ℕ → List Piece
pieces_from w i n = pieces_of operands_of (words_from w i n)

-- the pieces of a script's commands, which are as many words as word 5 says, from the offset in
-- word 4 on
abbrev pub script_pieces : List ℕ → List Piece
script_pieces s = pieces_from (raw_at s) (raw_at s 4) (raw_at s 5)

-- the piece at word i, whatever gives its words
abbrev pub script_piece : (ℕ → ℕ) → ℕ → Piece
script_piece w i = record { kind = w i; operands = words_from w (i + 1) (operands_of (w i)) }

-- the words of pieces, each mask without its start
unfoldable pub shortened : List Piece → List ℕ
shortened ps = joined (map unstarted ps)

-- the mask bytes are as many as word 7 says, from the offset in word 6 on
unfoldable pub given_in : List ℕ → Given
given_in s =
    given (number_at (raw_at s) 1) (params_of (raw_at s)) (map signed (shortened (script_pieces s)))
    (take (raw_at s 7) (drop (4 * raw_at s 6) s))

-- ---- the answer: 01's refusals 1 to 5, then NO_ROOM at the word that says how many command words,
-- or mask bytes, there are
unfoldable pub read_rows : List ℕ → ℕ → ℕ → List (Row Answer)
read_rows s words bytes =
    check_rows s ++
    (row (ltb words (length (given_in s).commands)) (Err (NoRoom 5)) ∷
    row (ltb bytes (length (given_in s).masks)) (Err (NoRoom 7)) ∷
    [])

-- parameters that are all 0
abbrev pub no_blues : Blues
no_blues = record { pairs = replicate max_blues no_blue; count = 0 }

abbrev pub no_params : HintParams
no_params =
    record {
      blue_scale = ZERO;
      blue_shift = ZERO;
      blue_fuzz = ZERO;
      language_group = pos 0;
      blues = no_blues;
      other_blues = no_blues;
      family_blues = no_blues;
      family_other_blues = no_blues;
    }

-- what is said of a script, and both buffers with it
pub record ReadResult : Type 0 where
  pub said : ReadBack
  pub commands : List ℤ
  pub masks : List ℕ

-- a refusal says nothing else, and changes no buffer
abbrev pub refused_back : Answer → ReadBack
refused_back a = record { answer = a; scale = ZERO; params = no_params; commands = 0; masks = 0 }

abbrev pub read_by : Bool → Answer → Given → List ℤ → List ℕ → ReadResult
read_by true a g cs ms = record { said = refused_back a; commands = cs; masks = ms }
read_by false a g cs ms =
    record {
      said =
          record {
            answer = a;
            scale = g.scale;
            params = g.params;
            commands = length g.commands;
            masks = length g.masks;
          };
      commands = over g.commands cs;
      masks = over g.masks ms;
    }

unfoldable pub read_back_of : List ℕ → List ℤ → List ℕ → ReadResult
read_back_of s cs ms =
    read_by (refuses (first_of (read_rows s (length cs) (length ms)))) (first_of (read_rows s (length cs) (length ms)))
    (given_in s) cs ms

-- all that is said, and every word and byte of both buffers
pub record ReadAs (o : ReadResult) (said : ReadBack) (commands : List ℤ) (masks : List ℕ) : Type 0 where
  pub answer : said ≡ o.said
  pub words : commands ≡ o.commands
  pub bytes : masks ≡ o.masks

-- ---- command words that are there, with no piece cut off
pub record WholeCommands (s : List ℕ) (first n : ℕ) : Type 0 where
  pub there : 4 * (first + n) ≤ length s
  pub short : length s ≤ 65536
  pub whole : Whole operands_of (pieces_from (raw_at s) first n)
