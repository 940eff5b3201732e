-- A label run (request 5): up to 64 glyphs under one set of parameters, and one result. Refusals in
-- their order, with no word changed; or the result at the start of the output, whose rest stands.
use Rattle.std.specs.Prelude.{◌≡◌, Bool, true, false, not, List, [], ◌∷◌, ◌++◌, map, ℕ, min, ◌+◌, ◌*◌, ltb, ℤ, pos}
use Rattle.std.specs.Prelude.{length, Ok, Err}
use Rattle.fixed.specs.declared.Fixed.{Fixed}
use Rattle.fixed.specs.Fixed.{from_bits, less_f}
use Rattle.zones.specs.declared.state.HintParams.{HintParams}
use Rattle.zones.specs.State.{counts_fit, state_of}
use Rattle.pen.specs.Records.{written}
use Rattle.words.specs.Rows.{Row, row, first_or}
use Rattle.words.specs.Answers.{refuses}
use Rattle.labels.specs.declared.label_answer.LabelRefusal.TheVariants.{RunCount, BadScale, BadBlues, NoRoom}
use Rattle.labels.specs.Answers.{LabelAnswer, label_refuses, in_glyph}
use Rattle.labels.specs.Glyphs.{Glyph, glyphs_of, miscounted, fault_of, records_of}

-- what is given
pub record Label : Type 0 where
  pub scale : Fixed
  pub params : HintParams
  pub commands : List ℤ
  pub masks : List ℕ
  pub lengths : List ℤ

abbrev pub label : Fixed → HintParams → List ℤ → List ℕ → List ℤ → Label
label scale params commands masks lengths =
    record { scale = scale; params = params; commands = commands; masks = masks; lengths = lengths }

abbrev pub glyphs_in : Label → List Glyph
glyphs_in l = glyphs_of l.lengths l.commands l.masks

-- the records of each glyph, by zones that are made once
unfoldable pub records_in : Label → List (List ℤ)
records_in l = map (records_of (state_of l.params l.scale)) (glyphs_in l)

-- ---- the result
-- where records from a word on start, and how many words they have
unfoldable pub places_from : ℕ → List (List ℤ) → List ℤ
places_from at [] = []
places_from at (ws ∷ wss) = pos at ∷ pos (length ws) ∷ places_from (at + length ws) wss

unfoldable pub joined : List (List ℤ) → List ℤ
joined [] = []
joined (ws ∷ wss) = ws ++ joined wss

-- the words before the records
abbrev pub header_of : ℕ → ℕ
header_of glyphs = 2 + 2 * glyphs

-- 1, the glyph count, the offset and the length of each glyph's records; then the records
unfoldable pub label_words : List (List ℤ) → List ℤ
label_words wss = pos 1 ∷ pos (length wss) ∷ places_from (header_of (length wss)) wss ++ joined wss

-- ---- the tests
-- the scale, then the counts, as a drawing is opened without a script
unfoldable pub open_rows : Fixed → HintParams → List (Row LabelAnswer)
open_rows scale p =
    row (less_f scale (from_bits (pos 1))) (Err BadScale) ∷
    row (not (counts_fit p)) (Err BadBlues) ∷
    []

-- the first faulty glyph from glyph k on, in it the first faulty command
unfoldable pub glyph_rows : ℕ → List Glyph → List (Row LabelAnswer)
glyph_rows k [] = []
glyph_rows k (g ∷ gs) = row (refuses (fault_of g)) (in_glyph k (fault_of g)) ∷ glyph_rows (k + 1) gs

-- the first glyph, behind glyph k and so many words, whose records end past the room
unfoldable pub room_rows : ℕ → ℕ → ℕ → List ℕ → List (Row LabelAnswer)
room_rows room k words [] = row (ltb room words) (Err (NoRoom k)) ∷ []
room_rows room k words (n ∷ ns) = row (ltb room words) (Err (NoRoom k)) ∷ room_rows room (k + 1) (words + n) ns

-- an output of more words counts as 2^31 − 1 long, so that every offset and length is a word
abbrev pub room_in : List ℤ → ℕ
room_in out = min (length out) 2147483647

-- all tests, in request 5's order
unfoldable pub label_rows : Label → ℕ → List (Row LabelAnswer)
label_rows l room =
    row (miscounted l.lengths (length l.commands) (length l.masks)) (Err RunCount) ∷
    (open_rows l.scale l.params ++ (glyph_rows 1 (glyphs_in l) ++
    room_rows room 0 (header_of (length (glyphs_in l))) (map length (records_in l))))

unfoldable pub label_answer : Label → ℕ → LabelAnswer
label_answer l room = first_or (Ok (length (label_words (records_in l)))) (label_rows l room)

-- ---- the answer, and the output with it
pub record LabelResult : Type 0 where
  pub answer : LabelAnswer
  pub left : List ℤ

abbrev pub output_by : Bool → List ℤ → List ℤ → List ℤ
output_by true result out = out
output_by false result out = written result out

unfoldable pub labels_of : Label → List ℤ → LabelResult
labels_of l out =
    record {
      answer = label_answer l (room_in out);
      left = output_by (label_refuses (label_answer l (room_in out))) (label_words (records_in l)) out;
    }

-- the answer, and every word of the output
pub record Labelled (o : LabelResult) (said : LabelAnswer) (left : List ℤ) : Type 0 where
  pub answer : said ≡ o.answer
  pub memory : left ≡ o.left
