-- Laws of a walk over the glyphs, two lengths a turn: what they take of both lists. Assumes nothing.
use mathlib.Core.Path.{◌≡◌, refl, sym, ap, ◌∙◌}
use mathlib.Core.Bool.{false, ◌||◌, not}
use mathlib.Core.List.{List, [], ◌∷◌}
use Prim.Native.Nat.{ℕ, zero, suc, ◌+◌, ◌-◌, ◌*◌, ◌/◌, ◌%◌, ◌≤◌, ◌<◌}
use native.Mathlib.Numerals.{add-one}
use native.Mathlib.Omega.{arith}
use lib.Dec.{eqb, ltb}
use lib.IntN.{ℤ, pos}
use lib.ListN.{length, take, drop, get_or, drop_of_length-le}
use lib.Seq.{drop-cons, drop-drop}
use borrow.Author.Tests.{ltb-false, eqb-true, eqb-false, not-false}
use Rattle.fixed.specs.Integers.{bits_of}
use Rattle.fixed.proofs.Tests.{both_false}
use Rattle.labels.specs.Labels.{header_of}
use Rattle.labels.specs.Glyphs.{Glyph, glyph, glyphs_of, below0, any_negative, every_other, total, miscounted}

-- ---- lengths from a place on
abbrev pub at : List ℤ → ℕ → ℤ
at ls i = get_or ls i (pos 0)

rest_at : (ls : List ℤ) (i : ℕ) → i < length ls → drop i ls ≡ at ls i ∷ drop (i + 1) ls
rest_at ls i h = rw add-one (drop-cons ls i (pos 0) h)

two_at : (ls : List ℤ) (i : ℕ) → i + 1 < length ls → drop i ls ≡ at ls i ∷ at ls (i + 1) ∷ drop (i + 2) ls
two_at ls i h =
    let e : i + 1 + 1 ≡ i + 2 = omega arith in
    rest_at ls i (omega arith) ∙ ap (λ (l : List ℤ). at ls i ∷ l) (rw e at (rest_at ls (i + 1) h))

-- the sum of every other one
other-first : (n : ℤ) (ls : List ℤ) → every_other (n ∷ ls) ≡ n ∷ every_other (drop 1 ls)
unfolding every_other
other-first n [] = refl
other-first n (b ∷ ls) = refl

pub total-at : (ls : List ℤ) (i : ℕ) → i < length ls →
    total (every_other (drop i ls)) ≡ bits_of (at ls i) + total (every_other (drop (i + 2) ls))
unfolding total
total-at ls i h =
    let e : i + 1 + 1 ≡ i + 2 = omega arith in
    ap (λ (l : List ℤ). total (every_other l)) (rest_at ls i h) ∙
    ap total (other-first (at ls i) (drop (i + 1) ls)) ∙
    ap (λ (l : List ℤ). bits_of (at ls i) + total (every_other l))
    (drop-drop 1 (i + 1) ls ∙ ap (λ (k : ℕ). drop k ls) e)

pub total-none : (ls : List ℤ) (i : ℕ) → length ls ≤ i → total (every_other (drop i ls)) ≡ 0
unfolding total every_other
total-none ls i h = ap (λ (l : List ℤ). total (every_other l)) (drop_of_length-le ls h)

-- those that are negative
pub negative-at : (ls : List ℤ) (i : ℕ) → i < length ls →
    any_negative (drop i ls) ≡ (below0 (at ls i) || any_negative (drop (i + 1) ls))
unfolding any_negative
negative-at ls i h = ap any_negative (rest_at ls i h)

pub negative-none : (ls : List ℤ) (i : ℕ) → length ls ≤ i → any_negative (drop i ls) ≡ false
unfolding any_negative
negative-none ls i h = ap any_negative (drop_of_length-le ls h)

pub positive-at : (ls : List ℤ) (i : ℕ) → i < length ls → any_negative (drop i ls) ≡ false →
    (below0 (at ls i) ≡ false) × (any_negative (drop (i + 1) ls) ≡ false)
positive-at ls i h e = both_false (below0 (at ls i)) (any_negative (drop (i + 1) ls)) (sym (negative-at ls i h) ∙ e)

-- ---- how a walk stands: so many glyphs are left, which have what is left of both lists
pub record Walk (ls words : List ℤ) (masks : List ℕ) (i word byte : ℕ) : Type 0 where
  pub left : ℕ
  pub pairs : length ls ≡ i + 2 * left
  pub few : length ls ≤ 128
  pub positive : any_negative (drop i ls) ≡ false
  pub of_words : word + total (every_other (drop i ls)) ≡ length words
  pub of_bytes : byte + total (every_other (drop (i + 1) ls)) ≡ length masks

-- at the start
pub walk : (ls words : List ℤ) (masks : List ℕ) → miscounted ls (length words) (length masks) ≡ false →
    Walk ls words masks 0 0 0
unfolding miscounted
walk ls words masks e =
    let full = not (eqb (total (every_other ls)) (length words)) in
    let full_bytes = not (eqb (total (every_other (drop 1 ls))) (length masks)) in
    let odd = eqb (length ls % 2) 1 in
    let a = both_false (ltb 128 (length ls)) (odd || (any_negative ls || (full || full_bytes))) e in
    let b = both_false odd (any_negative ls || (full || full_bytes)) a.1 in
    let c = both_false (any_negative ls) (full || full_bytes) b.1 in
    let d = both_false full full_bytes c.1 in
    let even = eqb-false (length ls % 2) 1 b.0 in
    let words-full = eqb-true (total (every_other ls)) (length words) (not-false _ d.0) in
    let bytes-full = eqb-true (total (every_other (drop 1 ls))) (length masks) (not-false _ d.1) in
    record {
      left = length ls / 2;
      pairs = omega arith;
      few = ltb-false 128 (length ls) a.0;
      positive = c.0;
      of_words = omega (arith, words-full);
      of_bytes = omega (arith, bytes-full);
    }

module _ {ls words : List ℤ} {masks : List ℕ} {i word byte : ℕ} (w : Walk ls words masks i word byte) where
  abbrev pub rest : List Glyph
  rest = glyphs_of (drop i ls) (drop word words) (drop byte masks)

  -- after the last
  pub none_left : length ls ≤ i → rest ≡ []
  unfolding glyphs_of
  none_left h =
      ap (λ (l : List ℤ). glyphs_of l (drop word words) (drop byte masks)) (drop_of_length-le ls h)

  module _ (h : i < length ls) where
    -- a glyph has two lengths
    pub both-there : i + 1 < length ls
    both-there = omega (arith, w.pairs)

    -- neither is negative, nor one behind them
    pub first-positive : (below0 (at ls i) ≡ false) × (any_negative (drop (i + 1) ls) ≡ false)
    first-positive = positive-at ls i h w.positive

    pub second-positive : (below0 (at ls (i + 1)) ≡ false) × (any_negative (drop (i + 1 + 1) ls) ≡ false)
    second-positive = positive-at ls (i + 1) both-there first-positive.1

    module _ {n b : ℕ} (e : n ≡ bits_of (at ls i)) (f : b ≡ bits_of (at ls (i + 1))) where
      -- it lies within both lists
      pub words-there : word + n ≤ length words
      words-there = omega (arith, e, w.of_words, total-at ls i h)

      pub bytes-there : byte + b ≤ length masks
      bytes-there = omega (arith, f, w.of_bytes, total-at ls (i + 1) both-there)

      -- and the others behind it
      pub onward : Walk ls words masks (i + 2) (word + n) (byte + b)
      onward =
          let k : i + 1 + 1 ≡ i + 2 = omega arith in
          let m : i + 1 + 2 ≡ i + 2 + 1 = omega arith in
          record {
            left = w.left - 1;
            pairs = omega (arith, w.pairs);
            few = w.few;
            positive = rw k at second-positive.1;
            of_words = omega (arith, e, w.of_words, total-at ls i h);
            of_bytes = omega (arith, f, w.of_bytes, rw m at (total-at ls (i + 1) both-there));
          }

      pub first_of : rest ≡ glyph (take n (drop word words)) (take b (drop byte masks)) ∷
          glyphs_of (drop (i + 2) ls) (drop (word + n) words) (drop (byte + b) masks)
      unfolding glyphs_of
      first_of =
          ap (λ (l : List ℤ). glyphs_of l (drop word words) (drop byte masks)) (two_at ls i both-there) ∙
          rw (sym e, sym f, drop-drop n word words, drop-drop b byte masks)

-- what is lent of both lists up to a glyph's ends is the glyph
pub lent-glyph : (words : List ℤ) (masks : List ℕ) (word n byte b : ℕ) →
    glyph (take (word + n - word) (drop word words)) (take (byte + b - byte) (drop byte masks)) ≡
    glyph (take n (drop word words)) (take b (drop byte masks))
lent-glyph words masks word n byte b =
    let y : word + n - word ≡ n = omega arith in
    let z : byte + b - byte ≡ b = omega arith in
    rw (y, z)

-- two lengths are a glyph
pub glyphs-many : (ls words : List ℤ) (masks : List ℕ) (k : ℕ) → length ls ≡ 2 * k →
    length (glyphs_of ls words masks) ≡ k
unfolding glyphs_of
glyphs-many [] words masks k e = omega arith
glyphs-many (n ∷ []) words masks k e = absurd (odd k e)
  where
    odd : (k : ℕ) → 1 ≡ 2 * k → ⊥
    odd k e = omega arith
glyphs-many (n ∷ b ∷ ls) words masks zero e = absurd (none (length ls) e)
  where
    none : (m : ℕ) → suc (suc m) ≡ 2 * 0 → ⊥
    none m e = omega arith
glyphs-many (n ∷ b ∷ ls) words masks (suc k) e =
    ap suc (glyphs-many ls (drop (bits_of n) words) (drop (bits_of b) masks) k (omega arith))

-- so the words before the records are two more than the lengths
pub header_is : {ls words : List ℤ} {masks : List ℕ} → Walk ls words masks 0 0 0 →
    2 + length ls ≡ header_of (length (glyphs_of ls words masks))
header_is {ls} {words} {masks} w =
    omega (arith, w.pairs, glyphs-many ls words masks w.left (omega (arith, w.pairs)))
