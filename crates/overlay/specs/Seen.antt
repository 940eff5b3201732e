-- The edges of a script's map (request 2): 01's refusals 1 to 5, then the list.
use Rattle.std.specs.Prelude.{◌≡◌, List, ℕ, ◌/◌, ℤ, length, Result, Ok, Err}
use Rattle.words.specs.Bytes.{over}
use Rattle.words.specs.Answers.{Answer, number_of, place_of, first_of}
use Rattle.script.specs.Script.{check_rows, map_at}
use Rattle.listing.specs.declared.summary.Summary.{Summary}
use Rattle.listing.specs.Records.{no_summary}
use Rattle.listing.specs.Listing.{ListAnswer, list_answer, records_in, list_words}
use Rattle.overlay.specs.declared.answer.LookRefusal.{LookRefusal}
use Rattle.overlay.specs.declared.answer.LookRefusal.TheVariants.{Script, ListRoom}

-- ---- the answer
-- the summary of what is listed, or a refusal
abbrev pub SeenAnswer : Type 0
SeenAnswer = Result Summary LookRefusal

-- 01's numbers, and 8 for LIST_ROOM
abbrev pub seen_number : SeenAnswer → ℕ
seen_number (Ok s) = 0
seen_number (Err (Script r)) = number_of (Err r)
seen_number (Err ListRoom) = 8

-- 01's places
abbrev pub seen_place : SeenAnswer → ℕ
seen_place (Ok s) = 0
seen_place (Err (Script r)) = place_of (Err r)
seen_place (Err ListRoom) = 0

-- zeros if refused
abbrev pub seen_summary : SeenAnswer → Summary
seen_summary (Ok s) = s
seen_summary (Err r) = no_summary

-- the answer of a listing, as one to a script
abbrev pub seen_as : ListAnswer → SeenAnswer
seen_as (Ok s) = Ok s
seen_as (Err e) = Err ListRoom

-- ---- the look
-- an answer, and the list with it
pub record SeenResult : Type 0 where
  pub answer : SeenAnswer
  pub left : List ℤ

-- a script that is refused leaves the list; else the map after its first k commands is listed
abbrev pub seen_by : Answer → List ℕ → ℕ → List ℤ → SeenResult
seen_by (Err r) s k list = record { answer = Err (Script r); left = list }
seen_by (Ok tt) s k list =
    record {
      answer = seen_as (list_answer (map_at s k) (length list / 6));
      left = over (list_words (records_in (map_at s k) (length list / 6))) list;
    }

unfoldable pub seen_of : List ℕ → ℕ → List ℤ → SeenResult
seen_of s k list = seen_by (first_of (check_rows s)) s k list

-- the answer, and every word of the list
pub record Sees (o : SeenResult) (said : SeenAnswer) (left : List ℤ) : Type 0 where
  pub answer : said ≡ o.answer
  pub memory : left ≡ o.left
