-- The page that the program writes for people: a line an edge of a script's map and one that counts
-- them, or one that says why there is none. Texts are in ASCII.
use Rattle.std.specs.Prelude.{Bool, true, false, cond, not, ◌&&◌, List, [], ◌∷◌, ◌++◌, ℕ, ◌%◌, min, ltb, leb, eqb}
use Rattle.std.specs.Prelude.{length}
use Rattle.stems.specs.declared.edge.Kind.{Kind}
use Rattle.stems.specs.declared.edge.Kind.TheVariants.{Absent, GhostBottom, GhostTop, PairBottom, PairTop}
use Rattle.hintmap.specs.declared.map.HintMap.{HintMap}
use Rattle.words.specs.Answers.{Answer, number_of, place_of, first_of, refuses}
use Rattle.script.specs.Script.{check_rows, map_at}
use Rattle.listing.specs.declared.record.EdgeRecord.{EdgeRecord}
use Rattle.listing.specs.declared.summary.Summary.{Summary}
use Rattle.listing.specs.Records.{records_of, summary_of}
use Rattle.decimal.specs.Decimal.{number_text, decimal_text, read_on}

-- ---- an edge
-- " units at "
abbrev pub units_text : List ℕ
units_text = 32 ∷ 117 ∷ 110 ∷ 105 ∷ 116 ∷ 115 ∷ 32 ∷ 97 ∷ 116 ∷ 32 ∷ []

-- " pixels: "
abbrev pub pixels_text : List ℕ
pixels_text = 32 ∷ 112 ∷ 105 ∷ 120 ∷ 101 ∷ 108 ∷ 115 ∷ 58 ∷ 32 ∷ []

-- "absent", which no edge of a map is, "ghost bottom", "ghost top", "pair bottom", "pair top"
abbrev pub kind_text : Kind → List ℕ
kind_text Absent = 97 ∷ 98 ∷ 115 ∷ 101 ∷ 110 ∷ 116 ∷ []
kind_text GhostBottom = 103 ∷ 104 ∷ 111 ∷ 115 ∷ 116 ∷ 32 ∷ 98 ∷ 111 ∷ 116 ∷ 116 ∷ 111 ∷ 109 ∷ []
kind_text GhostTop = 103 ∷ 104 ∷ 111 ∷ 115 ∷ 116 ∷ 32 ∷ 116 ∷ 111 ∷ 112 ∷ []
kind_text PairBottom = 112 ∷ 97 ∷ 105 ∷ 114 ∷ 32 ∷ 98 ∷ 111 ∷ 116 ∷ 116 ∷ 111 ∷ 109 ∷ []
kind_text PairTop = 112 ∷ 97 ∷ 105 ∷ 114 ∷ 32 ∷ 116 ∷ 111 ∷ 112 ∷ []

-- " of no stem"
abbrev pub of_no_stem : List ℕ
of_no_stem = 32 ∷ 111 ∷ 102 ∷ 32 ∷ 110 ∷ 111 ∷ 32 ∷ 115 ∷ 116 ∷ 101 ∷ 109 ∷ []

-- " of stem "
abbrev pub of_stem : List ℕ
of_stem = 32 ∷ 111 ∷ 102 ∷ 32 ∷ 115 ∷ 116 ∷ 101 ∷ 109 ∷ 32 ∷ []

-- the stem of an edge; 96 is that of one that is no stem's
abbrev pub stem_text : ℕ → List ℕ
stem_text n = cond (eqb n 96) of_no_stem (of_stem ++ number_text n)

-- ", locked" if it is, and the end of the line
abbrev pub end_text : Bool → List ℕ
end_text true = 44 ∷ 32 ∷ 108 ∷ 111 ∷ 99 ∷ 107 ∷ 101 ∷ 100 ∷ 10 ∷ []
end_text false = 10 ∷ []

-- "UNITS units at PIXELS pixels: KIND of stem N, locked"
unfoldable pub line_of : EdgeRecord → List ℕ
line_of r =
    decimal_text r.height.bits ++
    (units_text ++
    (decimal_text r.device.bits ++
    (pixels_text ++ (kind_text r.kind ++ (stem_text r.stem ++ end_text r.locked)))))

unfoldable pub lines_of : List EdgeRecord → List ℕ
lines_of [] = []
lines_of (r ∷ rs) = line_of r ++ lines_of rs

-- ---- counts
-- "edges "
abbrev pub edges_text : List ℕ
edges_text = 101 ∷ 100 ∷ 103 ∷ 101 ∷ 115 ∷ 32 ∷ []

-- ", pairs "
abbrev pub pairs_text : List ℕ
pairs_text = 44 ∷ 32 ∷ 112 ∷ 97 ∷ 105 ∷ 114 ∷ 115 ∷ 32 ∷ []

-- ", ghosts "
abbrev pub ghosts_text : List ℕ
ghosts_text = 44 ∷ 32 ∷ 103 ∷ 104 ∷ 111 ∷ 115 ∷ 116 ∷ 115 ∷ 32 ∷ []

-- ", locked "
abbrev pub locked_text : List ℕ
locked_text = 44 ∷ 32 ∷ 108 ∷ 111 ∷ 99 ∷ 107 ∷ 101 ∷ 100 ∷ 32 ∷ []

-- "edges E, pairs P, ghosts G, locked L"
unfoldable pub summary_line : Summary → List ℕ
summary_line s =
    (edges_text ++ number_text s.edges) ++
    ((pairs_text ++ number_text s.pairs) ++
    ((ghosts_text ++ number_text s.ghosts) ++ ((locked_text ++ number_text s.locked) ++ end_text false)))

-- "refused: number "
abbrev pub refused_text : List ℕ
refused_text = 114 ∷ 101 ∷ 102 ∷ 117 ∷ 115 ∷ 101 ∷ 100 ∷ 58 ∷ 32 ∷ 110 ∷ 117 ∷ 109 ∷ 98 ∷ 101 ∷ 114 ∷ 32 ∷ []

-- ", place "
abbrev pub place_text : List ℕ
place_text = 44 ∷ 32 ∷ 112 ∷ 108 ∷ 97 ∷ 99 ∷ 101 ∷ 32 ∷ []

-- "refused: number N, place P", the place by its low 32 bits
unfoldable pub refusal_line : Answer → List ℕ
refusal_line a =
    (refused_text ++ number_text (number_of a)) ++ ((place_text ++ number_text (place_of a % 4294967296)) ++ end_text
    false)

-- ---- the page
-- the edges of a map, and their counts
unfoldable pub map_text : HintMap → List ℕ
map_text m = lines_of (records_of m) ++ summary_line (summary_of (records_of m))

-- the map of a script after so many commands, or its refusal
unfoldable pub page_of : List ℕ → ℕ → List ℕ
page_of s k = cond (refuses (first_of (check_rows s))) (refusal_line (first_of (check_rows s))) (map_text (map_at s k))

-- ---- the argument
unfoldable pub all_digits : List ℕ → Bool
all_digits [] = true
all_digits (d ∷ ds) = leb 48 d && (ltb d 58 && all_digits ds)

-- at least one digit, and nothing else
abbrev pub is_number : List ℕ → Bool
is_number ds = not (eqb (length ds) 0) && all_digits ds

-- how many commands digits ask for, up to a number that no script of 65,536 bytes has
unfoldable pub asked_in : List ℕ → ℕ
asked_in ds = min (read_on 0 ds) 4294967295

-- "the argument is a number of commands\n"
abbrev pub not_number : List ℕ
not_number =
    116 ∷ 104 ∷ 101 ∷ 32 ∷ 97 ∷ 114 ∷ 103 ∷ 117 ∷ 109 ∷ 101 ∷ 110 ∷ 116 ∷ 32 ∷ 105 ∷ 115 ∷ 32 ∷ 97 ∷ 32 ∷ 110 ∷ 117 ∷
    109 ∷ 98 ∷ 101 ∷ 114 ∷ 32 ∷ 111 ∷ 102 ∷ 32 ∷ 99 ∷ 111 ∷ 109 ∷ 109 ∷ 97 ∷ 110 ∷ 100 ∷ 115 ∷ 10 ∷ []

-- the page that a script and an argument ask for
unfoldable pub asked_page : List ℕ → List ℕ → List ℕ
asked_page s ds = cond (is_number ds) (page_of s (asked_in ds)) not_number
