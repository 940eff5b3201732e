-- How a list of edges is judged by what is stored for it. A case starts with ten words.
use Rattle.std.specs.Prelude.{Bool, ◌&&◌, List, ℕ, ◌+◌, ◌*◌, eqb, Option}
use Rattle.words.specs.Words.{raw_at}
use Rattle.listing.specs.declared.summary.Summary.{Summary}
use Rattle.overlay.specs.Seen.{SeenAnswer, SeenResult, seen_number, seen_place, seen_summary}
use Rattle.test_tables.specs.declared.verdict.Difference.{Difference}
use Rattle.test_tables.specs.Verdicts.{verdict_on}

-- ---- what is asked: the commands are counted in words 1 and 2
abbrev pub command_count : List ℕ → ℕ
command_count head = raw_at head 1 + 4294967296 * raw_at head 2

-- ---- what is stored: the number at word 4, the place at word 5, the counts from word 6 on
unfoldable pub same_summary : List ℕ → Summary → Bool
same_summary head s =
    eqb s.edges (raw_at head 6) &&
    (eqb s.pairs (raw_at head 7) &&
    (eqb s.ghosts (raw_at head 8) &&
    eqb s.locked (raw_at head 9)))

unfoldable pub same_answer : List ℕ → SeenAnswer → Bool
same_answer head a =
    eqb (seen_number a) (raw_at head 4) &&
    (eqb (seen_place a) (raw_at head 5) &&
    same_summary head (seen_summary a))

-- ---- the verdict
unfoldable pub verdict_of : List ℕ → List ℕ → SeenResult → Option Difference
verdict_of head stored r = verdict_on (same_answer head r.answer) r.left stored
