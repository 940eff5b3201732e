-- A map listed into what a caller lends (request 2): its answer, and what is left in the list.
use Rattle.std.specs.Prelude.{◌≡◌, cond, List, [], ◌∷◌, ◌++◌, ℕ, ◌/◌, leb, ℤ, pos, length, Result, Ok, Err}
use Rattle.stems.specs.declared.edge.Kind.{Kind}
use Rattle.stems.specs.declared.edge.Kind.TheVariants.{Absent, GhostBottom, GhostTop, PairBottom, PairTop}
use Rattle.hintmap.specs.declared.map.HintMap.{HintMap}
use Rattle.words.specs.Bytes.{over}
use Rattle.listing.specs.declared.record.EdgeRecord.{EdgeRecord}
use Rattle.listing.specs.declared.summary.Summary.{Summary}
use Rattle.listing.specs.declared.answer.ListRoom.{ListRoom}
use Rattle.listing.specs.Records.{records_of, summary_of, no_summary}

-- ---- the answer
abbrev pub ListAnswer : Type 0
ListAnswer = Result Summary ListRoom

-- 0 is OK, 8 LIST_ROOM
abbrev pub list_number : ListAnswer → ℕ
list_number (Ok s) = 0
list_number (Err e) = 8

abbrev pub list_place : ListAnswer → ℕ
list_place a = 0

-- zeros if refused
abbrev pub list_summary : ListAnswer → Summary
list_summary (Ok s) = s
list_summary (Err e) = no_summary

-- refused exactly if the map has more records than there is room for
unfoldable pub list_answer : HintMap → ℕ → ListAnswer
list_answer m room = cond (leb (length (records_of m)) room) (Ok (summary_of (records_of m))) (Err (record {}))

-- ---- the list
-- what is listed into room for so many records: all or none
unfoldable pub records_in : HintMap → ℕ → List EdgeRecord
records_in m room = cond (leb (length (records_of m)) room) (records_of m) []

-- the answer, and every record of the list: those behind the listed ones stand
pub record Lists (m : HintMap) (list : List EdgeRecord) (said : ListAnswer) (left : List EdgeRecord) : Type 0 where
  pub answer : said ≡ list_answer m (length list)
  pub memory : left ≡ over (records_in m (length list)) list

-- ---- the list as words, six a record
-- no edge of a map is absent, so a kind is below 4
abbrev pub kind_number : Kind → ℕ
kind_number GhostBottom = 0
kind_number GhostTop = 1
kind_number PairBottom = 2
kind_number PairTop = 3
kind_number Absent = 4

abbrev pub record_words : EdgeRecord → List ℤ
record_words r =
    r.height.bits ∷
    r.device.bits ∷
    r.scale.bits ∷
    pos (kind_number r.kind) ∷
    pos r.stem ∷
    pos (cond r.locked 1 0) ∷
    []

unfoldable pub list_words : List EdgeRecord → List ℤ
list_words [] = []
list_words (r ∷ rs) = record_words r ++ list_words rs

-- a list of words has room for a sixth as many records; a rest of under six words is never written
pub record ListsWords (m : HintMap) (list : List ℤ) (said : ListAnswer) (left : List ℤ) : Type 0 where
  pub answer : said ≡ list_answer m (length list / 6)
  pub memory : left ≡ over (list_words (records_in m (length list / 6))) list
