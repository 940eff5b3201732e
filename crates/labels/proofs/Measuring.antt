-- Laws of the measure: how it stands before a glyph, a glyph more, and where it ends. Assumes
-- nothing.
use mathlib.Core.Path.{◌≡◌, refl, sym, ap, ◌∙◌}
use mathlib.Core.Bool.{true, false, not}
use mathlib.Core.List.{List, [], ◌∷◌, ◌++◌, map}
use Prim.Native.Nat.{ℕ, ◌+◌, ◌≤◌, ◌<◌}
use native.Mathlib.Omega.{arith}
use lib.Dec.{ltb}
use lib.IntN.{ℤ}
use lib.ListN.{length, take, drop}
use borrow.Author.Tests.{lt-ltb, le-ltb, ne_eqb}
use Rattle.fixed.specs.Integers.{bits_of}
use Rattle.words.specs.Rows.{Row, first_or}
use Rattle.words.specs.declared.answer.Refusal.{Refusal}
use Rattle.words.specs.Answers.{refuses, number_of}
use Rattle.words.proofs.Answers.{numbered}
use Rattle.labels.specs.declared.measure.Taken.{Taken}
use Rattle.labels.specs.declared.label_answer.LabelRefusal.TheVariants.{NoRoom}
use Rattle.labels.specs.Answers.{LabelAnswer, in_glyph}
use Rattle.std.proofs.Common.{Ok, Err}
use Rattle.labels.specs.Glyphs.{Glyph, glyph, glyphs_of, fault_of}
use Rattle.labels.specs.Labels.{header_of, glyph_rows, room_rows}
use Rattle.labels.specs.Measured.{size_of, sum_from, taken_by, measured_of}
use Rattle.labels.proofs.Walking.{at, Walk, rest, none_left, onward, first_of, header_is}
use Rattle.labels.proofs.Rooms.{past_room, room-step, room-end, fitted-before, taken-most, taken-glyph}

module _ (ls words : List ℤ) (masks : List ℕ) (room : ℕ) where
  abbrev all : List Glyph
  all = glyphs_of ls words masks

  abbrev header : ℕ
  header = header_of (length all)

  abbrev whole : ℕ
  whole = sum_from header (map size_of all)

  -- what the rows of the room answer
  abbrev by_room : List (Row LabelAnswer) → LabelAnswer
  by_room rs = first_or (Ok whole) rs

  abbrev rooms : List (Row LabelAnswer)
  rooms = room_rows room 0 header (map size_of all)

  -- the tests that are left answer all, and so does the room that is left
  pub record Measuring (t : Taken) (k i word byte : ℕ) : Type 0 where
    pub walks : Walk ls words masks i word byte
    pub faults : measured_of all room ≡ by_room (glyph_rows (k + 1) (rest walks) ++ rooms)
    pub fits : by_room rooms ≡ by_room (room_rows room t.glyph t.words (map size_of (rest walks)))
    pub sum : ltb room t.words ≡ false → sum_from t.words (map size_of (rest walks)) ≡ whole
    pub most : t.words ≤ room + 21474836480
    pub few : (t.glyph ≤ i) × (k ≤ i)

  -- before the first glyph
  pub measuring : Walk ls words masks 0 0 0 → room < 2147483648 →
      Measuring (record { words = 2 + length ls; glyph = 0 }) 0 0 0 0
  unfolding measured_of
  measuring w h =
      let e = header_is w in
      record {
        walks = w;
        faults = refl;
        fits = ap (λ (n : ℕ). by_room (room_rows room 0 n (map size_of all))) (sym e);
        sum = λ f. ap (λ (n : ℕ). sum_from n (map size_of all)) e;
        most = omega (arith, w.few);
        few = (omega arith, omega arith);
      }

module _ {ls words : List ℤ} {masks : List ℕ} {room : ℕ} {t : Taken} {k i word byte : ℕ}
    (m : Measuring ls words masks room t k i word byte) where
  -- at a glyph
  module _ (h : i < length ls) {n b : ℕ} (e : n ≡ bits_of (at ls i)) (f : b ≡ bits_of (at ls (i + 1))) where
    abbrev here : Glyph
    here = glyph (take n (drop word words)) (take b (drop byte masks))

    abbrev behind : List Glyph
    behind = glyphs_of (drop (i + 2) ls) (drop (word + n) words) (drop (byte + b) masks)

    first : rest m.walks ≡ here ∷ behind
    first = first_of m.walks h e f

    rows : measured_of (glyphs_of ls words masks) room ≡
        by_room ls words masks room (glyph_rows (k + 1) (here ∷ behind) ++ rooms ls words masks room)
    rows =
        m.faults ∙
        ap (λ (gs : List Glyph). by_room ls words masks room (glyph_rows (k + 1) gs ++ rooms ls words masks room)) first

    -- that has a fault
    pub faulty : {r : Refusal} → fault_of here ≡ Err r →
        measured_of (glyphs_of ls words masks) room ≡ in_glyph (k + 1) (Err r)
    unfolding first_or glyph_rows
    faulty {r} q =
        let n : number_of (Err r) ≡ 0 → ⊥ = λ z. absurd (omega (arith, z, numbered r)) in
        let s : refuses (Err r) ≡ true = ap not (ne_eqb (number_of (Err r)) 0 n) in
        rows ∙ rw (q, s)

    -- and at one that has none
    pub counting : fault_of here ≡ Ok tt → size_of here ≤ 21474836480 →
        Measuring ls words masks room (taken_by t (size_of here) room) (k + 1) (i + 2) (word + n) (byte + b)
    unfolding first_or glyph_rows sum_from
    counting q l =
        record {
          walks = onward m.walks h e f;
          faults = rows ∙ rw q;
          fits =
              m.fits ∙
              ap (λ (gs : List Glyph). by_room ls words masks room (room_rows room t.glyph t.words (map size_of gs)))
              first ∙
              room-step (Ok (whole ls words masks room)) room t (size_of here) (map size_of behind);
          sum = λ r. summed (fitted-before room t (size_of here) r);
          most = taken-most room 21474836480 t (size_of here) l m.most;
          few = (omega (arith, taken-glyph room t (size_of here), m.few.0), omega (arith, m.few.1));
        }
      where
        summed : (ltb room t.words ≡ false) × ((taken_by t (size_of here) room).words ≡ t.words + size_of here) →
            sum_from (taken_by t (size_of here) room).words (map size_of behind) ≡ whole ls words masks room
        summed p =
            ap (λ (x : ℕ). sum_from x (map size_of behind)) p.1 ∙
            ap (λ (gs : List Glyph). sum_from t.words (map size_of gs)) (sym first) ∙ m.sum p.0

  -- after the last
  module _ (h : length ls ≤ i) where
    left : measured_of (glyphs_of ls words masks) room ≡
        by_room ls words masks room (room_rows room t.glyph t.words [])
    unfolding glyph_rows
    left =
        m.faults ∙
        ap (λ (gs : List Glyph). by_room ls words masks room (glyph_rows (k + 1) gs ++ rooms ls words masks room))
        (none_left m.walks h) ∙
        m.fits ∙
        ap (λ (gs : List Glyph). by_room ls words masks room (room_rows room t.glyph t.words (map size_of gs)))
        (none_left m.walks h)

    pub full : room < t.words → measured_of (glyphs_of ls words masks) room ≡ Err (NoRoom t.glyph)
    full q = left ∙ past_room (Ok (whole ls words masks room)) room t.glyph t.words [] (lt-ltb _ _ q)

    pub measured : t.words ≤ room → measured_of (glyphs_of ls words masks) room ≡ Ok t.words
    unfolding sum_from
    measured q =
        let r = le-ltb room t.words q in
        left ∙ room-end (Ok (whole ls words masks room)) room t.glyph t.words r ∙
        ap (λ (n : ℕ). let a : LabelAnswer = Ok n in a)
        (sym (m.sum r) ∙ ap (λ (gs : List Glyph). sum_from t.words (map size_of gs)) (none_left m.walks h))
