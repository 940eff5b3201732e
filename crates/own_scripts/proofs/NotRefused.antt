-- What an answer to a label run that does not refuse leaves: scale and counts are fine, and no glyph
-- has a fault. Assumes nothing.
use mathlib.Core.Path.{◌≡◌, refl, sym, ap, ◌∙◌}
use mathlib.Core.Bool.{Bool, true, false}
use mathlib.Core.List.{List, [], ◌∷◌}
use Prim.Native.Nat.{ℕ, zero, suc, ◌<◌}
use native.Mathlib.Omega.{arith}
use lib.Dec.{eqb, leb}
use lib.IntN.{ℤ, pos}
use lib.ListN.{length, get_or}
use borrow.Author.Tests.{eqb-true, eqb-false, leb-true, not-false}
use Rattle.std.specs.Prelude.{Ok}
use Rattle.fixed.specs.declared.Fixed.{Fixed}
use Rattle.fixed.specs.Fixed.{from_bits, less_f}
use Rattle.fixed.proofs.Tests.{both}
use Rattle.zones.specs.declared.state.HintParams.{HintParams}
use Rattle.zones.specs.State.{counts_fit}
use Rattle.words.specs.Rows.{first_or}
use Rattle.words.proofs.Rows.{none-holds}
use Rattle.writer.specs.Refusals.{FineParams}
use Rattle.labels.specs.Answers.{LabelAnswer}
use Rattle.labels.specs.Answers.{label_number, label_refuses}
use Rattle.labels.specs.Glyphs.{Glyph, miscounted, fault_of}
use Rattle.labels.specs.Labels.{Label, glyphs_in, open_rows, room_in, label_answer, labels_of}
use Rattle.labels.specs.Measured.{Faultless}
use Rattle.labels.proofs.Answering.{open-refusing, open-fine, by_count, by-numbers, by-measure, measured-fine}

-- ---- scale and counts
-- the scale is 1 bit or more, and the counts are fine
pub record Opened (scale : Fixed) (p : HintParams) : Type 0 where
  pub scaled : less_f scale (from_bits (pos 1)) ≡ false
  pub params : FineParams p

-- where none of them holds
pub opened : (scale : Fixed) (p : HintParams) → first_or (Ok 0) (open_rows scale p) ≡ Ok 0 → Opened scale p
unfolding open_rows counts_fit
opened scale p e =
    let f = none-holds (Ok 0) (open_rows scale p) (open-refusing scale p) e in
    let few = both (leb p.blues.count 7) _ (not-false (counts_fit p) (f 1)) in
    let others = both (leb p.other_blues.count 7) _ few.1 in
    let family = both (leb p.family_blues.count 7) _ others.1 in
    record {
      scaled = f 0;
      params =
          record {
            blues = leb-true p.blues.count 7 few.0;
            others = leb-true p.other_blues.count 7 others.0;
            family = leb-true p.family_blues.count 7 family.0;
            family_others = leb-true p.family_other_blues.count 7 family.1;
          };
    }

-- ---- an answer that does not refuse
-- a glyph among some without a fault
fault-at : (none : Glyph) (gs : List Glyph) → Faultless gs → (k : ℕ) → k < length gs →
    fault_of (get_or gs k none) ≡ Ok tt
fault-at none [] f k h = absurd (omega arith)
fault-at none (g ∷ gs) f zero h = f.0
fault-at none (g ∷ gs) f (suc k) h = fault-at none gs f.1 k (omega arith)

module _ (l : Label) (out : List ℤ) (e : label_refuses (labels_of l out).answer ≡ false) where
  abbrev room : ℕ
  room = room_in out

  numbered : label_number (label_answer l room) ≡ 0
  unfolding labels_of
  numbered = eqb-true (label_number (label_answer l room)) 0 (not-false (eqb (label_number (label_answer l room)) 0) e)

  -- the lengths fill both lists
  counted : miscounted l.lengths (length l.commands) (length l.masks) ≡ false
  counted = by (miscounted l.lengths (length l.commands) (length l.masks)) refl
    where
      by : (b : Bool) → miscounted l.lengths (length l.commands) (length l.masks) ≡ b → b ≡ false
      by true f = absurd (omega (arith, numbered, ap label_number (by_count l room f)))
      by false f = refl

  -- scale and counts are not refused
  pub opens : first_or (Ok 0) (open_rows l.scale l.params) ≡ Ok 0
  opens = by (eqb (label_number answer) 0) refl
    where
      answer : LabelAnswer
      answer = first_or (Ok 0) (open_rows l.scale l.params)

      by : (b : Bool) → eqb (label_number answer) 0 ≡ b → answer ≡ Ok 0
      by true f = (open-fine l.scale l.params (eqb-true (label_number answer) 0 f)).0
      by false f =
          let h : 0 < label_number answer = omega (arith, eqb-false (label_number answer) 0 f) in
          absurd (omega (arith, numbered, h, ap label_number (by-numbers l room counted {a = answer} refl h)))

  -- and no glyph is
  pub faultless : (none : Glyph) (k : ℕ) → k < length (glyphs_in l) → fault_of (get_or (glyphs_in l) k none) ≡ Ok tt
  faultless none =
      fault-at none (glyphs_in l)
      (measured-fine (glyphs_in l) room (ap label_number (sym (by-measure l room counted opens)) ∙ numbered)).0
