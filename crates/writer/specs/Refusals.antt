-- The writer's answer (request 1): refusals in their order, with nothing written, or the script at
-- the start of the buffer, whose rest stands.
use Rattle.std.specs.Prelude.{◌≡◌, Bool, true, false, not, ◌||◌, List, [], ◌∷◌, ◌++◌, ℕ, ◌+◌, ◌-◌, ◌≤◌, eqb, ltb, ℤ}
use Rattle.std.specs.Prelude.{pos, length, Result, Ok, Err}
use Rattle.fixed.specs.declared.Fixed.{Fixed}
use Rattle.fixed.specs.Fixed.{from_bits, less_f}
use Rattle.zones.specs.declared.state.HintParams.{HintParams}
use Rattle.zones.specs.Zones.{max_blues}
use Rattle.words.specs.Words.{negative}
use Rattle.words.specs.Bytes.{over}
use Rattle.words.specs.Rows.{Row, row, first_or}
use Rattle.header.specs.Header.{outside}
use Rattle.writer.specs.declared.write_answer.WriteRefusal.{WriteRefusal}
use Rattle.writer.specs.declared.write_answer.WriteRefusal.TheVariants.{BadScale, BadBlues}
use Rattle.writer.specs.declared.write_answer.WriteRefusal.TheVariants.{BadCommand, BadMask, ScriptRoom}
use Rattle.writer.specs.Pieces.{Piece, piece_words, given_operands, bytes_taken}
use Rattle.writer.specs.ToWrite.{Given, pieces_in, script_for}

-- ---- answers
-- the bytes of the script, or a refusal
abbrev pub WriteAnswer : Type 0
WriteAnswer = Result ℕ WriteRefusal

-- 01's numbers, and 7 for SCRIPT_ROOM
abbrev pub write_number : WriteAnswer → ℕ
write_number (Ok n) = 0
write_number (Err BadScale) = 2
write_number (Err (BadBlues p)) = 3
write_number (Err (BadCommand p)) = 4
write_number (Err (BadMask p)) = 5
write_number (Err ScriptRoom) = 7

-- scale and counts have their places in a script; commands and masks have theirs among the given
-- command words
abbrev pub write_place : WriteAnswer → ℕ
write_place (Ok n) = 0
write_place (Err BadScale) = 1
write_place (Err (BadBlues p)) = p
write_place (Err (BadCommand p)) = p
write_place (Err (BadMask p)) = p
write_place (Err ScriptRoom) = 0

-- the bytes that were written
abbrev pub written_bytes : WriteAnswer → ℕ
written_bytes (Ok n) = n
written_bytes (Err BadScale) = 0
written_bytes (Err (BadBlues p)) = 0
written_bytes (Err (BadCommand p)) = 0
written_bytes (Err (BadMask p)) = 0
written_bytes (Err ScriptRoom) = 0

abbrev pub write_refuses : WriteAnswer → Bool
write_refuses a = not (eqb (write_number a) 0)

-- ---- tests
-- the scale, then the counts
unfoldable pub given_rows : Fixed → HintParams → List (Row WriteAnswer)
given_rows scale p =
    row (less_f scale (from_bits (pos 1))) (Err BadScale) ∷
    row (ltb max_blues p.blues.count) (Err (BadBlues 12)) ∷
    row (ltb max_blues p.other_blues.count) (Err (BadBlues 13)) ∷
    row (ltb max_blues p.family_blues.count) (Err (BadBlues 14)) ∷
    row (ltb max_blues p.family_other_blues.count) (Err (BadBlues 15)) ∷
    []

-- kind outside 1 to 9, or operands cut off
abbrev pub bad_piece : Piece → Bool
bad_piece p = outside 1 9 p.kind || ltb (length p.operands) (given_operands p.kind)

-- a mask's length negative, or more than the bytes not yet taken
abbrev pub too_long : ℕ → ℕ → Bool
too_long len left = negative len || ltb left len

-- the pieces first to last, from a place among the given words on, with so many mask bytes not yet
-- taken; behind the last piece none may be left
unfoldable pub piece_rows : ℕ → ℕ → List Piece → List (Row WriteAnswer)
piece_rows place left [] = row (ltb 0 left) (Err (BadMask place)) ∷ []
piece_rows place left (p ∷ ps) =
    row (bad_piece p) (Err (BadCommand place)) ∷
    row (too_long (bytes_taken p) left) (Err (BadMask place)) ∷
    piece_rows (place + length (piece_words p)) (left - bytes_taken p) ps

-- more bytes than the buffer has, or than a script may have
abbrev pub room_row : ℕ → ℕ → Row WriteAnswer
room_row size room = row (ltb room size || ltb 65536 size) (Err ScriptRoom)

-- the tests, in request 1's order
unfoldable pub write_rows : Given → ℕ → List (Row WriteAnswer)
write_rows g room =
    given_rows g.scale g.params ++
    (piece_rows 0 (length g.masks) (pieces_in g.commands) ++ (room_row (length (script_for g)) room ∷ []))

unfoldable pub write_answer : Given → ℕ → WriteAnswer
write_answer g room = first_or (Ok (length (script_for g))) (write_rows g room)

-- ---- the answer, and the buffer with it
pub record WriteResult : Type 0 where
  pub answer : WriteAnswer
  pub left : List ℕ

abbrev pub buffer_by : Bool → List ℕ → List ℕ → List ℕ
buffer_by true script lent = lent
buffer_by false script lent = over script lent

unfoldable pub write_of : Given → List ℕ → WriteResult
write_of g lent =
    record {
      answer = write_answer g (length lent);
      left = buffer_by (write_refuses (write_answer g (length lent))) (script_for g) lent;
    }

-- the answer, and every byte of the buffer
pub record Wrote (o : WriteResult) (said : WriteAnswer) (left : List ℕ) : Type 0 where
  pub answer : said ≡ o.answer
  pub memory : left ≡ o.left

-- ---- what the tests leave
-- commands without a fault, whose masks take no more bytes than a script may have
pub record FineCommands (cs : List ℤ) : Type 0 where
  pub bytes : ℕ
  pub few : bytes ≤ 65536
  pub faultless : first_or (Ok 0) (piece_rows 0 bytes (pieces_in cs)) ≡ Ok 0

-- at most seven pairs a list
pub record FineParams (p : HintParams) : Type 0 where
  pub blues : p.blues.count ≤ max_blues
  pub others : p.other_blues.count ≤ max_blues
  pub family : p.family_blues.count ≤ max_blues
  pub family_others : p.family_other_blues.count ≤ max_blues

-- what can be written: no test holds
pub record Writable (g : Given) (room : ℕ) : Type 0 where
  pub commands : FineCommands g.commands
  pub params : FineParams g.params
  pub short : length (script_for g) ≤ 65536
  pub there : length (script_for g) ≤ room
