-- How a label run is judged by what is stored for it. A case starts with ten words.
use Rattle.std.specs.Prelude.{Bool, ◌&&◌, List, ℕ, eqb, Option}
use Rattle.words.specs.Words.{raw_at}
use Rattle.labels.specs.Answers.{LabelAnswer}
use Rattle.labels.specs.Answers.{label_number, label_glyph, label_place, label_written}
use Rattle.labels.specs.Labels.{LabelResult}
use Rattle.test_tables.specs.declared.verdict.Difference.{Difference}
use Rattle.test_tables.specs.Verdicts.{verdict_on}

-- ---- what is stored: the number at word 5, the glyph at word 6, the place at word 7, the words
-- written at word 8
unfoldable pub same_answer : List ℕ → LabelAnswer → Bool
same_answer head a =
    eqb (label_number a) (raw_at head 5) &&
    (eqb (label_glyph a) (raw_at head 6) &&
    (eqb (label_place a) (raw_at head 7) &&
    eqb (label_written a) (raw_at head 8)))

-- ---- the verdict
unfoldable pub verdict_of : List ℕ → List ℕ → LabelResult → Option Difference
verdict_of head stored r = verdict_on (same_answer head r.answer) r.left stored
