-- Request 5's law: each glyph's records equal those of its own script run alone with room enough, 01's
-- length limit apart.
use Rattle.std.specs.Prelude.{◌≡◌, List, [], ◌++◌, map, ℕ, ◌+◌, ◌*◌, ◌≤◌, ℤ, pos, length, take, drop, get_or, Ok, Err}
use Rattle.fixed.specs.declared.Fixed.{Fixed}
use Rattle.fixed.specs.Integers.{bits_of}
use Rattle.zones.specs.declared.state.HintParams.{HintParams}
use Rattle.zones.specs.State.{state_of}
use Rattle.pen.specs.Records.{written}
use Rattle.words.specs.declared.answer.Refusal.TheVariants.{BadScript, BadScale, BadBlues, BadCommand, BadMask}
use Rattle.words.specs.declared.answer.Refusal.TheVariants.{NoRoom}
use Rattle.words.specs.Bytes.{bytes_of}
use Rattle.words.specs.Answers.{Answer, first_of}
use Rattle.script.specs.Script.{check_rows, result_words, script_of}
use Rattle.writer.specs.ToWrite.{param_words, header_words, padded_bytes}
use Rattle.labels.specs.Glyphs.{Glyph, glyph, fault_of, records_of}
use Rattle.labels.specs.Labels.{Label, glyphs_in, records_in, joined, header_of, label_words, labels_of}
use Rattle.round_trips.specs.RoundTrips.{Held, HeldParams, Bytes}

-- ---- a glyph's own script
-- the scale, the parameters, its command words as they are
unfoldable pub own_words : Fixed → HintParams → Glyph → List ℕ
own_words scale p g =
    header_words scale (length (param_words p)) (length g.words) (length g.masks) ++
    (param_words p ++ map bits_of g.words)

-- and its mask bytes, with zeros up to a whole word
unfoldable pub own_script : Fixed → HintParams → Glyph → List ℕ
own_script scale p g = bytes_of (own_words scale p g) ++ padded_bytes g.masks

-- 01's length limit
abbrev pub most_bytes : ℕ
most_bytes = 65536

-- ---- what arguments hold
-- numbers of 32 bits, and bytes; of a command word the 32 bits are read, whatever it is
pub record HeldLabel (l : Label) : Type 0 where
  pub scale : Held l.scale
  pub params : HeldParams l.params
  pub masks : Bytes l.masks

-- ---- glyph k of a label, counted from 0
abbrev pub glyph_at : Label → ℕ → Glyph
glyph_at l k = get_or (glyphs_in l) k (glyph [] [])

-- its own script, and its records
abbrev pub script_at : Label → ℕ → List ℕ
script_at l k = own_script l.scale l.params (glyph_at l k)

abbrev pub records_at : Label → ℕ → List ℤ
records_at l k = records_of (state_of l.params l.scale) (glyph_at l k)

-- where they start: behind the header and the records of the glyphs before it
abbrev pub offset_at : Label → ℕ → ℕ
offset_at l k = header_of (length (glyphs_in l)) + length (joined (take k (records_in l)))

-- ---- a glyph of a label that is not refused
pub record Alone (l : Label) (out : List ℤ) (k : ℕ) : Type 0 where
  -- its own script is bytes
  pub bytes : Bytes (script_at l k)
  -- which, where 01's limit allows them, are accepted, and run with room enough leave these records
  pub run : length (script_at l k) ≤ most_bytes → (lent : List ℤ) → 4 + length (records_at l k) ≤ length lent →
      script_of (script_at l k) lent ≡ record { answer = Ok tt; left = written (result_words (records_at l k)) lent }
  -- the label's result says where they start and how many words they have
  pub offset : get_or (labels_of l out).left (2 + 2 * k) (pos 0) ≡ pos (offset_at l k)
  pub words : get_or (labels_of l out).left (3 + 2 * k) (pos 0) ≡ pos (length (records_at l k))
  -- and there they stand
  pub records : take (length (records_at l k)) (drop (offset_at l k) (labels_of l out).left) ≡ records_at l k
  -- words past the result stand as lent
  pub rest : drop (length (label_words (records_in l))) (labels_of l out).left ≡
      drop (length (label_words (records_in l))) out

-- ---- what the two functions leave
-- an own script run alone, where the label run left n words of records from word o on: it is answered
-- OK, says as many record words, and has the same ones behind its header
pub record SameLeft (o n : ℕ) (left : List ℤ) (said : Answer) (alone : List ℤ) : Type 0 where
  pub ok : said ≡ Ok tt
  pub words : get_or alone 3 (pos 0) ≡ pos n
  pub records : take n (drop 4 alone) ≡ take n (drop o left)

-- ---- a glyph with a fault
-- a place among command words, behind so many other words
abbrev pub behind : ℕ → Answer → Answer
behind n (Ok tt) = Ok tt
behind n (Err (BadScript p)) = Err (BadScript p)
behind n (Err BadScale) = Err BadScale
behind n (Err (BadBlues p)) = Err (BadBlues p)
behind n (Err (BadCommand p)) = Err (BadCommand (n + p))
behind n (Err (BadMask p)) = Err (BadMask (n + p))
behind n (Err (NoRoom p)) = Err (NoRoom p)

-- its own script gets the same answer, with the place in the script
abbrev pub FaultAlone : Fixed → HintParams → Glyph → Type 0
FaultAlone scale p g = first_of (check_rows (own_script scale p g)) ≡ behind (8 + length (param_words p)) (fault_of g)
