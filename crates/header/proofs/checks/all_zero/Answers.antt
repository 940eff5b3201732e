-- `all_zero` meets its contract, since its chain asks of each byte from `at` on what the definition asks.
-- Assumes nothing.
use mathlib.Core.Path.{refl, sym, ◌∙◌}
use mathlib.Core.Bool.{◌&&◌}
use Rattle.std.proofs.Common.{◌≡◌, ◌<◌, ◌-◌, arith, rules, Bool, true, false, List, [], ◌∷◌, ℕ, zero, suc, length, drop}
use Rattle.std.specs.Bool.{MatchBool}
use Rattle.std.specs.List.{AllWithin, HoldsAt}
use Rattle.std.proofs.lemmas.Iterator.{cases_from_all, YieldsList-from_slice}
use lib.Dec.{eqb}
use lib.ListN.{length-drop}
use lib.Seq.{take_all}
use borrow.Author.Tests.{tests}
use Rattle.header.specs.Header.{all_zero}
use Rattle.header.proofs.checks.all_zero.Goals as goal

-- where every byte is 0, and where one is not
zeros : (bs : List ℕ) → AllWithin (λ (b : ℕ). eqb b 0 ≡ true) bs 0 (length bs) → all_zero bs ≡ true
unfolding all_zero
zeros [] h = refl
zeros (b ∷ bs) h =
    let e : eqb b 0 ≡ true = h 0 0 (omega arith) (omega arith) in
    rw e (zeros bs (λ k d l m. h (suc k) d (omega arith) (omega arith)))

other : (bs : List ℕ) (k : ℕ) → k < length bs → HoldsAt (λ (b : ℕ). eqb b 0 ≡ false) bs k → all_zero bs ≡ false
unfolding all_zero
other [] k l h = absurd (omega arith)
other (b ∷ bs) zero l h =
    let e : eqb b 0 ≡ false = h 0 in
    rw e
other (b ∷ bs) (suc k) l h = by (eqb b 0) (other bs k (omega arith) (λ d. h d))
  where
    by : (t : Bool) → all_zero bs ≡ false → (t && all_zero bs) ≡ false
    by true e = e
    by false e = refl

-- so the answer is the definition's
answer : (r : Bool) (bs : List ℕ) →
    MatchBool r (AllWithin (λ (b : ℕ). eqb b 0 ≡ true) bs 0 (length bs))
    ((k : ℕ) × (k < length bs) × HoldsAt (λ (b : ℕ). eqb b 0 ≡ false) bs k) →
    r ≡ all_zero bs
answer true bs h = sym (zeros bs h)
answer false bs (k, l, h) = sym (other bs k l h)

pub returns : goal.returns
returns c =
    let bs = c.args.script.now in
    let s = drop c.args.at bs in
    let all = take_all (length bs - c.args.at) s (omega (arith, length-drop c.args.at bs)) in
    answer c.all.result s
    (cases_from_all _ _ _ (λ (b : ℕ). eqb b 0 ≡ true) (λ (b : ℕ). eqb b 0 ≡ false) c.all.ensures.ran
    (YieldsList-from_slice s (c.iter.ensures.rest ∙ all)) (λ x q k. search (rules, tests))
    (λ x q k. search (rules, tests)))
