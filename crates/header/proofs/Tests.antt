-- The way through a list of tests, and tests from facts on numbers and back. `omega tests` proves a
-- test true or false. Assumes nothing.
use mathlib.Core.Path.{◌≡◌, refl, sym, ap, ◌∙◌}
use mathlib.Core.Bool.{Bool, true, false, not, ◌&&◌, ◌||◌}
use mathlib.Core.List.{List, [], ◌∷◌}
use Prim.Native.Nat.{ℕ, zero, suc, ◌%◌, ◌^◌, ◌≤◌, ◌<◌}
use native.Mathlib.Omega.{arith}
use lib.Dec.{eqb, ltb}
use lib.ListN.{drop}
use borrow.Author.Tests.{lt-ltb, le-ltb, lt-leb, eq-eqb, ne_eqb, ltb-true, ltb-false, eqb-true, not-false}
use Rattle.std.specs.Prelude.{Ok}
use Rattle.fixed.proofs.Tests.{both, both_false}
use Rattle.words.specs.Rows.{Row, row_at}
use Rattle.words.specs.Answers.{Answer, first_of, number_of}
use Rattle.words.proofs.Rows.{hit, skip, Refusing}
use Rattle.words.proofs.Answers.{refusal}
use Rattle.header.specs.Header.{differs, outside, length_bad}
use Rattle.words.specs.Words.{negative}

-- the first k tests do not hold
pub record Past (rs : List (Row Answer)) (k : ℕ) : Type 0 where
  pub rest : first_of rs ≡ first_of (drop k rs)

pub pass : {rs : List (Row Answer)} (k : ℕ) → Past rs k → (row_at (Ok tt) rs k).fault ≡ false → Past rs (suc k)
pass {rs} k p e = record { rest = p.rest ∙ skip (Ok tt) rs k e }

-- and the next one does
pub stop : {rs : List (Row Answer)} (k : ℕ) → Past rs k → (row_at (Ok tt) rs k).fault ≡ true →
    (row_at (Ok tt) rs k).said ≡
    first_of rs
stop {rs} k p e = sym (p.rest ∙ hit (Ok tt) rs k e)

-- ---- tests that all refuse, by computation
abbrev pub refuses : List (Row Answer) → Bool
refuses [] = true
refuses (r ∷ rs) = ltb 0 (number_of r.said) && refuses rs

pub refusing : (rs : List (Row Answer)) → refuses rs ≡ true → Refusing (Ok tt) rs
refusing [] h k l = absurd (omega arith)
refusing (r ∷ rs) h zero l =
    refusal (ltb-true 0 (number_of r.said) (both (ltb 0 (number_of r.said)) (refuses rs) h).0)
refusing (r ∷ rs) h (suc k) l = refusing rs (both (ltb 0 (number_of r.said)) (refuses rs) h).1 k (omega arith)

-- ---- either of two tests
second : (a b : Bool) → b ≡ true → (a || b) ≡ true
second true b e = refl
second false b e = e

neither : (a b : Bool) → a ≡ false → b ≡ false → (a || b) ≡ false
neither a b e f = rw (e, f)

pub alike : (a b : ℕ) → differs a b ≡ false → a ≡ b
alike a b e = eqb-true a b (not-false (eqb a b) e)

-- ---- tests from facts
pub same : (a b : ℕ) → a ≡ b → differs a b ≡ false
same a b e = ap not (eq-eqb a b e)

pub other : (a b : ℕ) → (a ≡ b → ⊥) → differs a b ≡ true
other a b e = ap not (ne_eqb a b e)

pub low : (a b n : ℕ) → n < a → outside a b n ≡ true
low a b n h = rw (lt-ltb n a h)

pub high : (a b n : ℕ) → b < n → outside a b n ≡ true
high a b n h = second (ltb n a) (ltb b n) (lt-ltb b n h)

pub inside : (a b n : ℕ) → a ≤ n → n ≤ b → outside a b n ≡ false
inside a b n l h = neither (ltb n a) (ltb b n) (le-ltb n a l) (le-ltb b n h)

module _ (w a b : ℕ) where
  pub past_end : a < b → (negative w || ltb a b) ≡ true
  past_end h = second (negative w) (ltb a b) (lt-ltb a b h)

  pub before-end : w < 2 ^ 31 → b ≤ a → (negative w || ltb a b) ≡ false
  before-end l h = neither (negative w) (ltb a b) (lt-leb (2 ^ 31) w l) (le-ltb a b h)

  pub off-end : (a ≡ b → ⊥) → (negative w || differs a b) ≡ true
  off-end h = second (negative w) (differs a b) (other a b h)

  pub at-end : w < 2 ^ 31 → a ≡ b → (negative w || differs a b) ≡ false
  at-end l h = neither (negative w) (differs a b) (lt-leb (2 ^ 31) w l) (same a b h)

pub ruleset tests = (arith, lt-ltb, le-ltb, same, other, past_end, off-end)

-- ---- a length that is fine
pub long : (n : ℕ) → length_bad n ≡ false → (32 ≤ n) × (n ≤ 65536)
unfolding length_bad
long n e =
    let p = both_false (ltb n 32) (ltb 65536 n) (both_false (outside 32 65536 n) (differs (n % 4) 0) e).0 in
    (ltb-false n 32 p.0, ltb-false 65536 n p.1)
