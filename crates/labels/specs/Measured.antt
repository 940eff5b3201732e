-- What is known of a label before a word is written (request 5): the first fault of each glyph, and
-- how many words its records have.
use Rattle.std.specs.Prelude.{◌≡◌, Bool, true, false, List, [], ◌∷◌, ◌++◌, map, ℕ, ◌+◌, ◌≤◌, ◌<◌, ltb, ℤ, pos}
use Rattle.std.specs.Prelude.{length, Result, Ok}
use Rattle.std.specs.Result.{result_and}
use Rattle.zones.specs.declared.state.HintState.{HintState}
use Rattle.pen.specs.Counting.{new_trail}
use Rattle.words.specs.Bytes.{placed}
use Rattle.words.specs.Rows.{first_or}
use Rattle.words.specs.declared.answer.Refusal.{Refusal}
use Rattle.run.specs.Counting.{count_along}
use Rattle.labels.specs.declared.measure.Taken.{Taken}
use Rattle.labels.specs.Answers.{LabelAnswer}
use Rattle.labels.specs.Glyphs.{Glyph, glyphs_of, miscounted, fault_of, calls_in, records_of}
use Rattle.labels.specs.Labels.{header_of, glyph_rows, room_rows}

-- the words of a glyph's records, by kinds and character points
unfoldable pub size_of : Glyph → ℕ
size_of g = count_along new_trail (calls_in g)

-- the first fault, or else those words
unfoldable pub survey_of : Glyph → Result ℕ Refusal
survey_of g = result_and (fault_of g) (Ok (size_of g))

-- the sum of some counts behind others
unfoldable pub sum_from : ℕ → List ℕ → ℕ
sum_from n [] = n
sum_from n (m ∷ ms) = sum_from (n + m) ms

-- no glyph has a fault
abbrev pub Faultless : List Glyph → Type 0
Faultless [] = Unit {0}
Faultless (g ∷ gs) = (fault_of g ≡ Ok tt) × Faultless gs

-- one glyph more behind those before it, if they fit
abbrev pub taken_if : Bool → Taken → ℕ → Taken
taken_if true t n = t
taken_if false t n = record { words = t.words + n; glyph = t.glyph + 1 }

unfoldable pub taken_by : Taken → ℕ → ℕ → Taken
taken_by t n room = taken_if (ltb room t.words) t n

-- the tests of glyphs and room; where none holds, the words of the result
unfoldable pub measured_of : List Glyph → ℕ → LabelAnswer
measured_of gs room =
    first_or (Ok (sum_from (header_of (length gs)) (map size_of gs)))
    (glyph_rows 1 gs ++ room_rows room 0 (header_of (length gs)) (map size_of gs))

-- ---- what the tests leave
-- a glyph without a fault, whose records fit behind a word and behind their place in the header
pub record Settable (g : Glyph) (slot next room : ℕ) : Type 0 where
  pub short : length g.words < 2147483648
  pub faultless : fault_of g ≡ Ok tt
  pub before : slot + 2 ≤ next
  pub fits : next + size_of g ≤ room
  pub word : next + size_of g < 2147483648

-- its records from a word on, and in the header where they start and how many words they have
abbrev pub set_at : HintState → Glyph → ℕ → ℕ → List ℤ → List ℤ
set_at st g slot next out =
    placed (placed out next (records_of st g)) slot (pos next ∷ pos (length (records_of st g)) ∷ [])

-- the glyph set so: how many words it has, and the output
pub record GlyphSet (st : HintState) (g : Glyph) (slot next : ℕ) (out : List ℤ) (words : ℕ) (left : List ℤ) : Type 0
  where
    pub size : words ≡ length (records_of st g)
    pub memory : left ≡ set_at st g slot next out

-- lengths of so many glyphs, none of them at fault, whose records and header fit
pub record Fillable (ls words : List ℤ) (masks : List ℕ) (room : ℕ) : Type 0 where
  pub counted : miscounted ls (length words) (length masks) ≡ false
  pub faultless : Faultless (glyphs_of ls words masks)
  pub fits : sum_from (header_of (length (glyphs_of ls words masks))) (map size_of (glyphs_of ls words masks)) ≤ room
  pub word : sum_from (header_of (length (glyphs_of ls words masks))) (map size_of (glyphs_of ls words masks)) <
      2147483648
