-- Laws of the room: the words so far and the counts behind them, glyph by glyph. Assumes nothing.
use mathlib.Core.Path.{◌≡◌, refl, sym, ◌∙◌}
use mathlib.Core.Bool.{Bool, true, false, cond, true≢false}
use mathlib.Core.List.{List, [], ◌∷◌, map}
use Prim.Native.Nat.{ℕ, ◌+◌, ◌≤◌}
use native.Mathlib.Omega.{arith}
use lib.Dec.{ltb}
use lib.IntN.{ℤ}
use lib.ListN.{length, length-append}
use borrow.Author.Tests.{ltb-false}
use Rattle.words.specs.Rows.{first_or}
use Rattle.labels.specs.declared.measure.Taken.{Taken}
use Rattle.labels.specs.declared.label_answer.LabelRefusal.TheVariants.{NoRoom}
use Rattle.labels.specs.Answers.{LabelAnswer}
use Rattle.std.proofs.Common.{Err}
use Rattle.labels.specs.Labels.{room_rows, places_from, joined, header_of, label_words}
use Rattle.labels.specs.Measured.{sum_from, taken_if, taken_by}
use Rattle.labels.proofs.Laying.{places-length}

module _ (ok : LabelAnswer) (room : ℕ) where
  -- where the words are past the room already, the glyph is the last so far
  pub past_room : (k words : ℕ) (ns : List ℕ) → ltb room words ≡ true →
      first_or ok (room_rows room k words ns) ≡ Err (NoRoom k)
  unfolding first_or room_rows
  past_room k words [] e = rw e
  past_room k words (n ∷ ns) e = rw e

  -- one glyph more
  pub room-step : (t : Taken) (n : ℕ) (ns : List ℕ) →
      first_or ok (room_rows room t.glyph t.words (n ∷ ns)) ≡
      first_or ok (room_rows room (taken_by t n room).glyph (taken_by t n room).words ns)
  unfolding first_or room_rows taken_by
  room-step t n ns = by (ltb room t.words) refl
    where
      by : (b : Bool) → ltb room t.words ≡ b →
          cond b (Err (NoRoom t.glyph)) (first_or ok (room_rows room (t.glyph + 1) (t.words + n) ns)) ≡
          first_or ok (room_rows room (taken_if b t n).glyph (taken_if b t n).words ns)
      by true e = sym (past_room t.glyph t.words ns e)
      by false e = refl

  -- after the last
  pub room-end : (k words : ℕ) → ltb room words ≡ false → first_or ok (room_rows room k words []) ≡ ok
  unfolding first_or room_rows
  room-end k words e = rw e

-- what fits after one glyph more fitted before it
pub fitted-before : (room : ℕ) (t : Taken) (n : ℕ) → ltb room (taken_by t n room).words ≡ false →
    (ltb room t.words ≡ false) × ((taken_by t n room).words ≡ t.words + n)
unfolding taken_by
fitted-before room t n h = by (ltb room t.words) refl h
  where
    by : (b : Bool) → ltb room t.words ≡ b → ltb room (taken_if b t n).words ≡ false →
        (ltb room t.words ≡ false) × ((taken_if b t n).words ≡ t.words + n)
    by true e h = absurd (true≢false (sym e ∙ h))
    by false e h = (e, refl)

-- one glyph's words more are at most so many
pub taken-most : (room most : ℕ) (t : Taken) (n : ℕ) → n ≤ most → t.words ≤ room + most →
    (taken_by t n room).words ≤ room + most
unfolding taken_by
taken-most room most t n h k = by (ltb room t.words) refl
  where
    by : (b : Bool) → ltb room t.words ≡ b → (taken_if b t n).words ≤ room + most
    by true e = k
    by false e = omega (arith, ltb-false room t.words e)

pub taken-glyph : (room : ℕ) (t : Taken) (n : ℕ) → (taken_by t n room).glyph ≤ t.glyph + 1
unfolding taken_by
taken-glyph room t n = by (ltb room t.words)
  where
    by : (b : Bool) → (taken_if b t n).glyph ≤ t.glyph + 1
    by true = omega arith
    by false = omega arith

-- ---- the words of a result are those of the header and of all glyphs
joined_length : (n : ℕ) (wss : List (List ℤ)) → n + length (joined wss) ≡ sum_from n (map length wss)
unfolding joined sum_from
joined_length n [] = omega arith
joined_length n (ws ∷ wss) = omega (arith, length-append ws (joined wss), joined_length (n + length ws) wss)

pub result-length : (wss : List (List ℤ)) →
    length (label_words wss) ≡ sum_from (header_of (length wss)) (map length wss)
unfolding label_words
result-length wss =
    let m = header_of (length wss) in
    omega (arith, length-append (places_from m wss) (joined wss), places-length m wss, joined_length m wss)

-- a sum is at least what it starts from
pub sum-least : (n : ℕ) (ns : List ℕ) → n ≤ sum_from n ns
unfolding sum_from
sum-least n [] = omega arith
sum-least n (m ∷ ms) = omega (arith, sum-least (n + m) ms)
