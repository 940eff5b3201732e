-- Laws of a label run's answer: refusals in their order, and what is left where there is none.
-- Assumes nothing.
use mathlib.Core.Path.{◌≡◌, refl, sym, ap, ◌∙◌}
use mathlib.Core.Bool.{Bool, true, false, cond}
use mathlib.Core.List.{List, [], ◌∷◌, ◌++◌, map}
use Prim.Native.Nat.{ℕ, zero, suc, ◌+◌, ◌≤◌, ◌<◌}
use native.Mathlib.Omega.{arith}
use lib.Dec.{eqb, ltb}
use lib.IntN.{ℤ, pos}
use lib.ListN.{length}
use lib.Signed.{◌<ℤ◌}
use borrow.Author.Tests.{ltb-false}
use Rattle.fixed.specs.declared.Fixed.{Fixed}
use Rattle.fixed.specs.Fixed.{from_bits, less_f}
use Rattle.fixed.proofs.Order.{heights}
use Rattle.zones.specs.declared.state.HintParams.{HintParams}
use Rattle.zones.specs.State.{state_of}
use Rattle.words.specs.Rows.{Row, first_or}
use Rattle.words.specs.Answers.{Answer, number_of, place_of, refuses}
use Rattle.words.proofs.Rows.{Refusing, none-holds, found-else, onward-else}
use Rattle.words.proofs.Answers.{not-refused}
use Rattle.labels.specs.declared.label_answer.LabelRefusal.{LabelRefusal}
use Rattle.labels.specs.declared.label_answer.LabelRefusal.TheVariants.{RunCount, BadScale, BadBlues}
use Rattle.labels.specs.declared.label_answer.LabelRefusal.TheVariants.{BadCommand, BadMask, NoRoom}
use Rattle.labels.specs.Answers.{LabelAnswer, label_number, in_glyph}
use Rattle.std.proofs.Common.{Ok, Err}
use Rattle.std.specs.Result.{result_and}
use Rattle.labels.specs.Glyphs.{Glyph, glyphs_of, miscounted, fault_of}
use Rattle.labels.specs.Labels.{Label, glyphs_in, records_in, header_of, open_rows, glyph_rows, room_rows}
use Rattle.labels.specs.Labels.{room_in, label_rows, label_answer}
use Rattle.labels.specs.Measured.{size_of, sum_from, Faultless, measured_of, Fillable}
use Rattle.labels.proofs.Filled.{result-is, sizes-are}

-- ---- scale and counts
-- an answer numbered from 1 is not OK
refusal : {a b : LabelAnswer} → 0 < label_number a → label_number b ≡ 0 → a ≡ b → ⊥
refusal h z e = absurd (omega (arith, h, z, ap label_number e))

-- and every refusal is numbered from 1
pub err-number : (r : LabelRefusal) → 0 < label_number (Err r)
err-number RunCount = omega arith
err-number BadScale = omega arith
err-number BadBlues = omega arith
err-number (BadCommand k p) = omega arith
err-number (BadMask k p) = omega arith
err-number (NoRoom k) = omega arith

-- tests of which every one refuses
abbrev Refuse : List (Row LabelAnswer) → Type 0
Refuse [] = Unit {0}
Refuse (r ∷ rs) = (0 < label_number r.said) × Refuse rs

refusing : (rs : List (Row LabelAnswer)) → Refuse rs → Refusing (Ok 0) rs
refusing [] h j l = absurd (omega arith)
refusing (r ∷ rs) h zero l = refusal h.0 refl
refusing (r ∷ rs) h (suc j) l = refusing rs h.1 j (omega arith)

-- an answer numbered 0 is that for where none holds
fine-is : (rs : List (Row LabelAnswer)) → Refuse rs → label_number (first_or (Ok 0) rs) ≡ 0 →
    first_or (Ok 0) rs ≡ Ok 0
unfolding first_or
fine-is [] h z = refl
fine-is (r ∷ rs) h z = by r.fault z (λ y. fine-is rs h.1 y)
  where
    by : (b : Bool) → label_number (cond b r.said (first_or (Ok 0) rs)) ≡ 0 →
        (label_number (first_or (Ok 0) rs) ≡ 0 → first_or (Ok 0) rs ≡ Ok 0) →
        cond b r.said (first_or (Ok 0) rs) ≡ Ok 0
    by true z k = absurd (omega (arith, h.0, z))
    by false z k = k z

open-refuse : (scale : Fixed) (p : HintParams) → Refuse (open_rows scale p)
unfolding open_rows
open-refuse scale p = (omega arith, (omega arith, tt))

-- so neither of these tests gives the answer for where none holds
pub open-refusing : (scale : Fixed) (p : HintParams) → Refusing (Ok 0) (open_rows scale p)
open-refusing scale p = refusing (open_rows scale p) (open-refuse scale p)

-- where none of them holds, the scale is 1 bit or more
pub open-fine : (scale : Fixed) (p : HintParams) → label_number (first_or (Ok 0) (open_rows scale p)) ≡ 0 →
    (first_or (Ok 0) (open_rows scale p) ≡ Ok 0) × (pos 0 <ℤ scale.bits)
unfolding open_rows
open-fine scale p z =
    let rs = open_rows scale p in
    let e = fine-is rs (open-refuse scale p) z in
    let t : less_f scale (from_bits (pos 1)) ≡ false =
    none-holds (Ok 0) rs (open-refusing scale p) e 0 in
    (e, omega heights)

-- ---- the answer
module _ (l : Label) (room : ℕ) where
  abbrev opened : LabelAnswer
  opened = first_or (Ok 0) (open_rows l.scale l.params)

  abbrev count : Bool
  count = miscounted l.lengths (length l.commands) (length l.masks)

  pub by_count : count ≡ true → label_answer l room ≡ Err RunCount
  unfolding label_answer label_rows first_or
  by_count e = rw e

  module _ (e : count ≡ false) where
    -- scale and counts are refused next
    pub by-numbers : {a : LabelAnswer} → a ≡ opened → 0 < label_number a → label_answer l room ≡ a
    unfolding label_answer label_rows first_or
    by-numbers q h =
        rw e (found-else (Ok 0) _ (open_rows l.scale l.params) _ (refusal (rw q at h) refl)) ∙ sym q

    -- and then glyphs and room decide
    pub by-measure : opened ≡ Ok 0 → label_answer l room ≡ measured_of (glyphs_in l) room
    unfolding label_answer label_rows first_or measured_of records_in
    by-measure o =
        let gs = glyphs_in l in
        let st = state_of l.params l.scale in
        let ok = Ok (sum_from (header_of (length gs)) (map size_of gs)) in
        let opens = open_rows l.scale l.params in
        rw e
        (ap (λ (n : ℕ). first_or (Ok n)
        (opens ++ (glyph_rows 1 gs ++ room_rows room 0 (header_of (length gs)) (map length (records_in l)))))
        (result-is st gs) ∙
        ap (λ (ns : List ℕ). first_or ok (opens ++ (glyph_rows 1 gs ++ room_rows room 0 (header_of (length gs)) ns)))
        (sizes-are st gs) ∙
        onward-else (Ok 0) ok opens (glyph_rows 1 gs ++ room_rows room 0 (header_of (length gs)) (map size_of gs))
        (open-refusing l.scale l.params) o)

-- the tests in turn: the lengths, then scale and counts, then glyphs and room
pub answered : (l : Label) (room : ℕ) →
    label_answer l room ≡
    cond (miscounted l.lengths (length l.commands) (length l.masks)) (Err RunCount)
    (result_and (first_or (Ok 0) (open_rows l.scale l.params)) (measured_of (glyphs_in l) room))
answered l room = by (miscounted l.lengths (length l.commands) (length l.masks)) refl
  where
    by : (b : Bool) → miscounted l.lengths (length l.commands) (length l.masks) ≡ b →
        label_answer l room ≡
        cond b (Err RunCount)
        (result_and (first_or (Ok 0) (open_rows l.scale l.params)) (measured_of (glyphs_in l) room))
    by true e = by_count l room e
    by false e = go (first_or (Ok 0) (open_rows l.scale l.params)) refl
      where
        go : (a : LabelAnswer) → first_or (Ok 0) (open_rows l.scale l.params) ≡ a →
            label_answer l room ≡ result_and a (measured_of (glyphs_in l) room)
        go (Ok n) f = by-measure l room e (open-fine l.scale l.params (ap label_number f)).0
        go (Err r) f = by-numbers l room e (sym f) (err-number r)

-- ---- what an answer that does not refuse leaves
-- a fault refuses
fault-number : (k : ℕ) (a : Answer) → label_number (in_glyph k a) ≡ 0 → ⊥
fault-number k a = by (eqb (number_of a) 5)
  where
    by : (b : Bool) → label_number (cond b (Err (BadMask k (place_of a))) (Err (BadCommand k (place_of a)))) ≡ 0 → ⊥
    by true e = omega arith
    by false e = omega arith

module _ (ok : LabelAnswer) where
  -- no glyph has one, and the tests behind them answer
  glyphs-fine : (k : ℕ) (gs : List Glyph) (rs : List (Row LabelAnswer)) →
      label_number (first_or ok (glyph_rows k gs ++ rs)) ≡ 0 →
      Faultless gs × (first_or ok (glyph_rows k gs ++ rs) ≡ first_or ok rs)
  unfolding first_or glyph_rows
  glyphs-fine k [] rs z = (tt, refl)
  glyphs-fine k (g ∷ gs) rs z = by (refuses (fault_of g)) refl z (λ y. glyphs-fine (k + 1) gs rs y)
    where
      by : (b : Bool) → refuses (fault_of g) ≡ b →
          label_number (cond b (in_glyph k (fault_of g)) (first_or ok (glyph_rows (k + 1) gs ++ rs))) ≡ 0 →
          (label_number (first_or ok (glyph_rows (k + 1) gs ++ rs)) ≡ 0 →
          Faultless gs × (first_or ok (glyph_rows (k + 1) gs ++ rs) ≡ first_or ok rs)) →
          Faultless (g ∷ gs) ×
          (cond b (in_glyph k (fault_of g)) (first_or ok (glyph_rows (k + 1) gs ++ rs)) ≡ first_or ok rs)
      by true e z h = absurd (fault-number k (fault_of g) z)
      by false e z h = ((not-refused (fault_of g) e, (h z).0), (h z).1)

  -- and all of them fit
  rooms_fine : (room k words : ℕ) (ns : List ℕ) → label_number (first_or ok (room_rows room k words ns)) ≡ 0 →
      (sum_from words ns ≤ room) × (first_or ok (room_rows room k words ns) ≡ ok)
  unfolding first_or room_rows sum_from
  rooms_fine room k words [] z = by (ltb room words) refl z
    where
      by : (b : Bool) → ltb room words ≡ b → label_number (cond b (Err (NoRoom k)) ok) ≡ 0 →
          (words ≤ room) × (cond b (Err (NoRoom k)) ok ≡ ok)
      by true e z = absurd (omega arith)
      by false e z = (ltb-false room words e, refl)
  rooms_fine room k words (n ∷ ns) z = by (ltb room words) refl z (λ y. rooms_fine room (k + 1) (words + n) ns y)
    where
      by : (b : Bool) → ltb room words ≡ b →
          label_number (cond b (Err (NoRoom k)) (first_or ok (room_rows room (k + 1) (words + n) ns))) ≡ 0 →
          (label_number (first_or ok (room_rows room (k + 1) (words + n) ns)) ≡ 0 →
          (sum_from (words + n) ns ≤ room) × (first_or ok (room_rows room (k + 1) (words + n) ns) ≡ ok)) →
          (sum_from (words + n) ns ≤ room) ×
          (cond b (Err (NoRoom k)) (first_or ok (room_rows room (k + 1) (words + n) ns)) ≡ ok)
      by true e z h = absurd (omega arith)
      by false e z h = h z

pub measured-fine : (gs : List Glyph) (room : ℕ) → label_number (measured_of gs room) ≡ 0 →
    Faultless gs × (sum_from (header_of (length gs)) (map size_of gs) ≤ room)
unfolding measured_of
measured-fine gs room z =
    let m = header_of (length gs) in
    let ns = map size_of gs in
    let ok = Ok (sum_from m ns) in
    let g = glyphs-fine ok 1 gs (room_rows room 0 m ns) z in
    (g.0, (rooms_fine ok room 0 m ns (ap label_number (sym g.1) ∙ z)).0)

-- glyphs that are not refused so can be filled into the output
pub fillable : (ls words : List ℤ) (masks : List ℕ) (out : List ℤ) →
    miscounted ls (length words) (length masks) ≡ false →
    label_number (measured_of (glyphs_of ls words masks) (room_in out)) ≡ 0 → Fillable ls words masks (length out)
fillable ls words masks out e z =
    let f = measured-fine (glyphs_of ls words masks) (room_in out) z in
    record { counted = e; faultless = f.0; fits = omega (arith, f.1); word = omega (arith, f.1) }
