-- What the exported functions leave: the answer's number, the buffer, and what else the answer says.
use Rattle.std.specs.Prelude.{◌≡◌, List, ℕ, ℤ}
use Rattle.words.specs.Answers.{number_of, place_of}
use Rattle.script.specs.Script.{Result}
use Rattle.overlay.specs.Seen.{SeenResult, seen_number, seen_place, seen_summary}
use Rattle.writer.specs.Refusals.{WriteResult, write_number, write_place, written_bytes}
use Rattle.labels.specs.Answers.{label_number, label_glyph, label_place, label_written}
use Rattle.labels.specs.Labels.{LabelResult}

pub record Returned (o : Result) (said : ℕ) (left : List ℤ) (at : ℕ) : Type 0 where
  pub number : said ≡ number_of o.answer
  pub memory : left ≡ o.left
  pub place : at ≡ place_of o.answer

pub record WriteReturned (o : WriteResult) (said : ℕ) (left : List ℕ) (bytes at : ℕ) : Type 0 where
  pub number : said ≡ write_number o.answer
  pub memory : left ≡ o.left
  pub written : bytes ≡ written_bytes o.answer
  pub place : at ≡ write_place o.answer

pub record EdgesReturned (o : SeenResult) (said : ℕ) (left : List ℤ)
    (edge_count pair_count ghost_count locked_count at : ℕ)
    : Type 0 where
  pub number : said ≡ seen_number o.answer
  pub memory : left ≡ o.left
  pub edges : edge_count ≡ (seen_summary o.answer).edges
  pub pairs : pair_count ≡ (seen_summary o.answer).pairs
  pub ghosts : ghost_count ≡ (seen_summary o.answer).ghosts
  pub locked : locked_count ≡ (seen_summary o.answer).locked
  pub place : at ≡ seen_place o.answer

pub record LabelsReturned (o : LabelResult) (said : ℕ) (left : List ℤ) (words in_glyph at : ℕ) : Type 0 where
  pub number : said ≡ label_number o.answer
  pub memory : left ≡ o.left
  pub written : words ≡ label_written o.answer
  pub glyph : in_glyph ≡ label_glyph o.answer
  pub place : at ≡ label_place o.answer
