-- Laws of the tests of the parameters, as 01's table has them: scale, counts, word 3 against the
-- pairs. Assumes nothing.
use mathlib.Core.Path.{◌≡◌, refl, sym, ap, ◌∙◌}
use mathlib.Core.Bool.{Bool, true, false}
use mathlib.Core.List.{List}
use mathlib.Core.Logic.{◌⊎◌, inl, inr}
use Prim.Native.Nat.{ℕ, zero, suc, ◌+◌, ◌-◌, ◌*◌, ◌≤◌, ◌<◌}
use native.Mathlib.Omega.{arith}
use lib.Dec.{ltb, eqb}
use lib.IntN.{ℤ, pos}
use lib.Signed.{◌<ℤ◌}
use borrow.Author.Tests.{lt-ltb, le-ltb, ltb-true, ltb-false, eqb-true, eqb-false}
use Rattle.std.specs.Prelude.{Ok, Err}
use Rattle.fixed.specs.Fixed.{from_bits, less_f}
use Rattle.fixed.proofs.Order.{heights}
use Rattle.words.specs.declared.answer.Refusal.TheVariants.{BadScript, BadScale, BadBlues}
use Rattle.words.specs.Words.{raw_at, word_at, number_at}
use Rattle.words.specs.Rows.{Row, row, first_or, row_at}
use Rattle.words.specs.Answers.{Answer, first_of}
use Rattle.header.specs.Params.{pairs_in, param_rows}
use Rattle.header.proofs.Tests.{Past, pass, stop, same, other}
use Rattle.theorems.specs.Demand1.{HeaderFine, ScaleFine, CountsFine, PairsFine, pairs, When}

module _ (s : List ℕ) where
  -- the first k counts are fine
  abbrev FirstFine : ℕ → Type 0
  FirstFine k = (j : ℕ) → 12 ≤ j → j < 12 + k → raw_at s j ≤ 7

  -- the test of the count at word 12 + k
  count-row : (k : ℕ) → k < 4 →
      row_at (Ok tt) (param_rows (raw_at s)) (suc k) ≡ row (ltb 7 (raw_at s (12 + k))) (Err (BadBlues (12 + k)))
  unfolding param_rows
  count-row zero h = refl
  count-row (suc zero) h = refl
  count-row (suc (suc zero)) h = refl
  count-row (suc (suc (suc zero))) h = refl
  count-row (suc (suc (suc (suc k)))) h = absurd (omega arith)

  -- no test before it holds
  past-counts : (k : ℕ) → k ≤ 4 → ScaleFine s → FirstFine k → Past (param_rows (raw_at s)) (suc k)
  unfolding param_rows
  past-counts zero h c f = pass 0 (record { rest = refl }) (omega heights)
  past-counts (suc k) h c f =
      pass (suc k) (past-counts k (omega arith) c (λ j l m. f j l (omega arith)))
      (ap (λ (r : Row Answer). r.fault) (count-row k (omega arith)) ∙
      le-ltb 7 (raw_at s (12 + k)) (f (12 + k) (omega arith) (omega arith)))

  -- ---- what the tests answer
  pub scale-answer : word_at (raw_at s) 1 <ℤ pos 1 → first_of (param_rows (raw_at s)) ≡ Err BadScale
  unfolding param_rows
  scale-answer h = sym (stop {rs = param_rows (raw_at s)} 0 (record { rest = refl }) (omega heights))

  count-answer : (k : ℕ) → k < 4 → ScaleFine s → FirstFine k → 7 < raw_at s (12 + k) →
      first_of (param_rows (raw_at s)) ≡ Err (BadBlues (12 + k))
  count-answer k h c f m =
      let e = count-row k h in
      sym (stop (suc k) (past-counts k (omega arith) c f)
      (ap (λ (r : Row Answer). r.fault) e ∙ lt-ltb 7 (raw_at s (12 + k)) m)) ∙ ap (λ (r : Row Answer). r.said) e

  pub blues-answer : (p : ℕ) → 12 ≤ p → p ≤ 15 → ScaleFine s → ((j : ℕ) → 12 ≤ j → j < p → raw_at s j ≤ 7) →
      7 < raw_at s p → first_of (param_rows (raw_at s)) ≡ Err (BadBlues p)
  blues-answer p l h c f m =
      let e : 12 + (p - 12) ≡ p = omega arith in
      count-answer (p - 12) (omega arith) c (λ j a b. f j a (omega arith)) (rw e m) ∙ ap (λ (q : ℕ). Err (BadBlues q)) e

  past_all : ScaleFine s → CountsFine s → Past (param_rows (raw_at s)) 5
  past_all c f = past-counts 4 (omega arith) c (λ j l m. f j l (omega arith))

  pub pairs-answer : ScaleFine s → CountsFine s → (PairsFine s → ⊥) →
      first_of (param_rows (raw_at s)) ≡ Err (BadScript 3)
  unfolding param_rows
  pairs-answer c f n =
      sym (stop {rs = param_rows (raw_at s)} 5 (past_all c f)
      (other (raw_at s 3) (8 + 2 * pairs_in (raw_at s)) (λ e. n (omega arith))))

  fine-answer : ScaleFine s → CountsFine s → PairsFine s → first_of (param_rows (raw_at s)) ≡ Ok tt
  unfolding param_rows first_or
  fine-answer c f p =
      (pass {rs = param_rows (raw_at s)} 5 (past_all c f)
      (same (raw_at s 3) (8 + 2 * pairs_in (raw_at s)) (omega arith))).rest

  -- ---- they are fine, or a row of the table is met
  record Over (k : ℕ) : Type 0 where
    pub place : ℕ
    pub least : 12 ≤ place
    pub most : place < 12 + k
    pub count : 7 < raw_at s place
    pub before : (j : ℕ) → 12 ≤ j → j < place → raw_at s j ≤ 7

  counts-or-not : (k : ℕ) → FirstFine k ⊎ Over k
  counts-or-not zero = inl (λ j l m. absurd (omega arith))
  counts-or-not (suc k) = by (counts-or-not k) (ltb 7 (raw_at s (12 + k))) refl
    where
      by : FirstFine k ⊎ Over k → (b : Bool) → ltb 7 (raw_at s (12 + k)) ≡ b → FirstFine (suc k) ⊎ Over (suc k)
      by (inr o) b e =
          inr (record { place = o.place; least = o.least; most = omega arith; count = o.count; before = o.before })
      by (inl f) true e =
          inr (record {
            place = 12 + k;
            least = omega arith;
            most = omega arith;
            count = ltb-true 7 (raw_at s (12 + k)) e;
            before = f;
          })
      by (inl f) false e = inl (λ j l m. last j l m (eqb j (12 + k)) refl)
        where
          last : (j : ℕ) → 12 ≤ j → j < 12 + suc k → (t : Bool) → eqb j (12 + k) ≡ t → raw_at s j ≤ 7
          last j l m true q = rw (eqb-true j (12 + k) q) (ltb-false 7 (raw_at s (12 + k)) e)
          last j l m false q = f j l (omega (arith, eqb-false j (12 + k) q))

  pub params-or-row : (out : List ℤ) → HeaderFine s →
      (first_of (param_rows (raw_at s)) ≡ Ok tt) ⊎ ((a : Answer) × When s out a)
  params-or-row out h = by-scale (less_f (number_at (raw_at s) 1) (from_bits (pos 1))) refl
    where
      by-pairs : ScaleFine s → CountsFine s → (b : Bool) → eqb (raw_at s 3) (8 + 2 * pairs_in (raw_at s)) ≡ b →
          (first_of (param_rows (raw_at s)) ≡ Ok tt) ⊎ ((a : Answer) × When s out a)
      by-pairs c f true e = inl (fine-answer c f (eqb-true (raw_at s 3) (8 + 2 * pairs_in (raw_at s)) e))
      by-pairs c f false e =
          inr (Err (BadScript 3), pairs h c f (eqb-false (raw_at s 3) (8 + 2 * pairs_in (raw_at s)) e) refl)

      by-counts : ScaleFine s → FirstFine 4 ⊎ Over 4 →
          (first_of (param_rows (raw_at s)) ≡ Ok tt) ⊎ ((a : Answer) × When s out a)
      by-counts c (inl f) =
          by-pairs c (λ j l m. f j l (omega arith)) (eqb (raw_at s 3) (8 + 2 * pairs_in (raw_at s))) refl
      by-counts c (inr o) =
          inr (
            (Err (BadBlues o.place)),
            record {
              header = h;
              scale = c;
              least = o.least;
              most = omega arith;
              count = o.count;
              before = o.before;
            },
          )

      by-scale : (b : Bool) → less_f (number_at (raw_at s) 1) (from_bits (pos 1)) ≡ b →
          (first_of (param_rows (raw_at s)) ≡ Ok tt) ⊎ ((a : Answer) × When s out a)
      by-scale true e = inr (Err BadScale, record { header = h; scale = omega heights })
      by-scale false e = by-counts (omega heights) (counts-or-not 4)
