-- Request 1's round trips: what is written reads back and makes the calls that were given, and a
-- script that is read back is written as the same bytes exactly if its masks lie end to end.
use Rattle.std.specs.Prelude.{◌≡◌, List, [], ◌∷◌, ◌++◌, map, ℕ, ◌+◌, ◌-◌, ◌<◌, pos, length, take, drop, get_or}
use Rattle.std.specs.Prelude.{replicate, Ok}
use Rattle.std.specs.Int.{w32}
use Rattle.std.proofs.Common.{SFits}
use Rattle.fixed.specs.declared.Fixed.{Fixed}
use Rattle.zones.specs.declared.blues.Blues.{Blues}
use Rattle.zones.specs.declared.state.HintParams.{HintParams}
use Rattle.zones.specs.Zones.{max_blues, no_blue, list_of}
use Rattle.words.specs.Words.{raw_at}
use Rattle.words.specs.Answers.{first_of}
use Rattle.words.specs.Bytes.{over}
use Rattle.commands.specs.declared.reading.Marking.TheVariants.{Bad, Stem, Mask, Counter, Clear, Close}
use Rattle.commands.specs.declared.reading.Command.{Command}
use Rattle.commands.specs.declared.reading.Command.TheVariants.{Mark, Draw}
use Rattle.commands.specs.Commands.{CommandAt, command_of}
use Rattle.hints.specs.Calls.{Call}
use Rattle.run.specs.Run.{Asked, call_of}
use Rattle.script.specs.Script.{commands_in, calls_in, check_rows}
use Rattle.writer.specs.Pieces.{Piece, piece_words, bytes_taken, started}
use Rattle.writer.specs.ToWrite.{Given, given, pieces_in, script_for}
use Rattle.writer.specs.Refusals.{write_of}
use Rattle.readback.specs.ReadBack.{given_in}

-- ---- what arguments hold
-- numbers of 32 bits, bytes
abbrev pub Held : Fixed → Type 0
Held x = SFits w32 x.bits

abbrev pub Bytes : List ℕ → Type 0
Bytes bs = (i : ℕ) → i < length bs → get_or bs i 0 < 256

pub record HeldBlues (b : Blues) : Type 0 where
  pub seven : length b.pairs ≡ max_blues
  pub bottoms : (i : ℕ) → i < max_blues → Held (get_or b.pairs i no_blue).bottom
  pub tops : (i : ℕ) → i < max_blues → Held (get_or b.pairs i no_blue).top

pub record HeldParams (p : HintParams) : Type 0 where
  pub blue_scale : Held p.blue_scale
  pub blue_shift : Held p.blue_shift
  pub blue_fuzz : Held p.blue_fuzz
  pub language_group : SFits w32 p.language_group
  pub blues : HeldBlues p.blues
  pub other_blues : HeldBlues p.other_blues
  pub family_blues : HeldBlues p.family_blues
  pub family_other_blues : HeldBlues p.family_other_blues

pub record HeldGiven (g : Given) : Type 0 where
  pub scale : Held g.scale
  pub params : HeldParams g.params
  pub commands : (i : ℕ) → i < length g.commands → SFits w32 (get_or g.commands i (pos 0))
  pub masks : Bytes g.masks

-- ---- what is written reads back
-- pairs past a count apart: they have no place in a script, and come back as zeros
abbrev pub kept_blues : Blues → Blues
kept_blues b = record { pairs = list_of b ++ replicate (max_blues - b.count) no_blue; count = b.count }

abbrev pub kept_params : HintParams → HintParams
kept_params p =
    record {
      blue_scale = p.blue_scale;
      blue_shift = p.blue_shift;
      blue_fuzz = p.blue_fuzz;
      language_group = p.language_group;
      blues = kept_blues p.blues;
      other_blues = kept_blues p.other_blues;
      family_blues = kept_blues p.family_blues;
      family_other_blues = kept_blues p.family_other_blues;
    }

abbrev pub kept : Given → Given
kept g = given g.scale (kept_params g.params) g.commands g.masks

-- word i of a piece
abbrev pub piece_word : Piece → ℕ → ℕ
piece_word p i = get_or (piece_words p) i 0

-- the call that a given piece asks for, by 01's commands; a mask is the first of the bytes that are
-- left
abbrev pub call_given : List ℕ → Piece → Call
call_given left p = call_of left 0 (command_of (piece_word (started 0 p)) 0 p.kind)

-- the calls of pieces, whose masks take the bytes in turn
unfoldable pub calls_given : List ℕ → List Piece → List Call
calls_given left [] = []
calls_given left (p ∷ ps) = call_given left p ∷ calls_given (drop (bytes_taken p) left) ps

-- the calls of a script's run, without their places
abbrev pub calls_made : List ℕ → List Call
calls_made s = map (λ (a : Asked). a.call) (calls_in s)

-- 01's reader accepts a script, which says what was given, and its run makes the calls that were
pub record SaysBack (g : Given) (s : List ℕ) : Type 0 where
  pub accepted : first_of (check_rows s) ≡ Ok tt
  pub same : given_in s ≡ kept g
  pub calls : calls_made s ≡ calls_given g.masks (pieces_in g.commands)

-- so does the script that is written
abbrev pub ReadsBack : Given → Type 0
ReadsBack g = SaysBack g (script_for g)

-- and, of every outcome that the writer's contract allows, the bytes that it says are written
abbrev pub WrittenBack : Given → ℕ → List ℕ → Type 0
WrittenBack g bytes left = SaysBack g (take bytes left)

-- ---- a script written again
-- where a mask lies among the mask bytes
pub record Part : Type 0 where
  pub start : ℕ
  pub bytes : ℕ

abbrev pub parts_in : Command → List Part
parts_in (Mark Bad) = []
parts_in (Mark (Stem min max)) = []
parts_in (Mark (Mask start len)) = record { start = start; bytes = len } ∷ []
parts_in (Mark (Counter start len)) = record { start = start; bytes = len } ∷ []
parts_in (Mark Clear) = []
parts_in (Mark Close) = []
parts_in (Draw p) = []

unfoldable pub parts_of : List CommandAt → List Part
parts_of [] = []
parts_of (c ∷ cs) = parts_in c.command ++ parts_of cs

-- each starts at the sum of the lengths before it, masks of no bytes too, and they end at the last
-- byte
abbrev pub LieFrom : ℕ → ℕ → List Part → Type 0
LieFrom n end [] = n ≡ end
LieFrom n end (p ∷ ps) = (p.start ≡ n) × LieFrom (n + p.bytes) end ps

abbrev pub EndToEnd : List ℕ → Type 0
EndToEnd s = LieFrom 0 (raw_at s 7) (parts_of (commands_in s))

-- read back and written over a buffer, it is the same bytes
abbrev pub WrittenAgain : List ℕ → List ℕ → Type 0
WrittenAgain s lent = write_of (given_in s) lent ≡ record { answer = Ok (length s); left = over s lent }
