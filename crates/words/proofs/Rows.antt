-- Laws of a list of tests: the first that holds gives the answer, whatever the answers are. Assumes
-- nothing.
use mathlib.Core.Path.{◌≡◌, refl, sym, ap, ◌∙◌}
use mathlib.Core.Bool.{Bool, true, false, cond, true≢false}
use mathlib.Core.List.{List, [], ◌∷◌, ◌++◌}
use Prim.Native.Nat.{ℕ, zero, suc, ◌<◌}
use native.Mathlib.Omega.{arith}
use lib.ListN.{length, drop}
use Rattle.std.specs.Prelude.{Result, Ok, Err, is_err, ◌&&◌}
use Rattle.std.specs.Result.{result_and}
use Rattle.words.specs.Rows.{Row, first_or, row_at, First}

none_before : (j : ℕ) → j < 0 → ⊥
none_before j l = omega arith

module _ {A : Type 0} (ok : A) where
  -- a test that holds, after those that do not, gives its refusal
  pub hit : (rs : List (Row A)) (k : ℕ) → (row_at ok rs k).fault ≡ true → first_or ok (drop k rs) ≡
      (row_at ok rs k).said
  unfolding first_or
  hit [] k e = absurd (true≢false (sym e))
  hit (r ∷ rs) zero e = ap (λ (t : Bool). cond t r.said (first_or ok rs)) e
  hit (r ∷ rs) (suc k) e = hit rs k e

  -- one that does not leaves the answer to those after it
  pub skip : (rs : List (Row A)) (k : ℕ) → (row_at ok rs k).fault ≡ false →
      first_or ok (drop k rs) ≡ first_or ok (drop (suc k) rs)
  unfolding first_or
  skip [] zero e = refl
  skip [] (suc k) e = refl
  skip (r ∷ rs) zero e = ap (λ (t : Bool). cond t r.said (first_or ok rs)) e
  skip (r ∷ rs) (suc k) e = skip rs k e

  -- every test refuses: what it says is another answer
  abbrev pub Refusing : List (Row A) → Type 0
  Refusing rs = (j : ℕ) → j < length rs → (row_at ok rs j).said ≡ ok → ⊥

  rest-refusing : (r : Row A) (rs : List (Row A)) → Refusing (r ∷ rs) → Refusing rs
  rest-refusing r rs h = λ j l. h (suc j) (omega arith)

  -- tests in two lists refuse if those of each do
  pub both-refusing : (rs qs : List (Row A)) → Refusing rs → Refusing qs → Refusing (rs ++ qs)
  both-refusing [] qs h g j l = g j l
  both-refusing (r ∷ rs) qs h g zero l = h 0 (omega arith)
  both-refusing (r ∷ rs) qs h g (suc j) l = both-refusing rs qs (rest-refusing r rs h) g j (omega arith)

  -- where none of them gives the answer, no test holds
  pub none-holds : (rs : List (Row A)) → Refusing rs → first_or ok rs ≡ ok → (k : ℕ) → (row_at ok rs k).fault ≡ false
  unfolding first_or
  none-holds [] h e k = refl
  none-holds (r ∷ rs) h e k = by r.fault refl (λ q i. none-holds rs (rest-refusing r rs h) q i) k
    where
      by : (b : Bool) → r.fault ≡ b → (first_or ok rs ≡ ok → (i : ℕ) → (row_at ok rs i).fault ≡ false) → (k : ℕ) →
          (row_at ok (r ∷ rs) k).fault ≡ false
      by true f g k = absurd (h 0 (omega arith) (sym (ap (λ (t : Bool). cond t r.said (first_or ok rs)) f) ∙ e))
      by false f g zero = f
      by false f g (suc k) = g (sym (ap (λ (t : Bool). cond t r.said (first_or ok rs)) f) ∙ e) k

  -- a refusal is given only where its test is the first that holds
  pub first-given : (rs : List (Row A)) (a : A) → (a ≡ ok → ⊥) → first_or ok rs ≡ a → First ok rs a
  unfolding first_or
  first-given [] a h e = absurd (h (sym e))
  first-given (r ∷ rs) a h e = by r.fault refl (λ q. first-given rs a h q)
    where
      by : (b : Bool) → r.fault ≡ b → (first_or ok rs ≡ a → First ok rs a) → First ok (r ∷ rs) a
      by true f g =
          record {
            place = 0;
            there = omega arith;
            holds = f;
            says = sym (ap (λ (t : Bool). cond t r.said (first_or ok rs)) f) ∙ e;
            before = λ j l. absurd (none_before j l);
          }
      by false f g =
          let q = g (sym (ap (λ (t : Bool). cond t r.said (first_or ok rs)) f) ∙ e) in
          record {
            place = suc q.place;
            there = omega (arith, q.there);
            holds = q.holds;
            says = q.says;
            before = λ j l. earlier q j l;
          }
        where
          earlier : (q : First ok rs a) (j : ℕ) → j < suc q.place → (row_at ok (r ∷ rs) j).fault ≡ false
          earlier q zero l = f
          earlier q (suc j) l = q.before j (omega arith)

  -- and wherever it is
  pub first_gives : (rs : List (Row A)) (a : A) → First ok rs a → first_or ok rs ≡ a
  first_gives rs a p = reach p.place p.before ∙ hit rs p.place p.holds ∙ p.says
    where
      reach : (k : ℕ) → ((j : ℕ) → j < k → (row_at ok rs j).fault ≡ false) → first_or ok rs ≡ first_or ok (drop k rs)
      reach zero f = refl
      reach (suc k) f = reach k (λ j h. f j (omega arith)) ∙ skip rs k (f k (omega arith))

  -- tests in two lists: a refusal of the first list stands, whatever is answered where none refuses
  pub found-else : (ok' : A) (rs qs : List (Row A)) → (first_or ok rs ≡ ok → ⊥) → first_or ok' (rs ++ qs) ≡ first_or ok
      rs
  unfolding first_or
  found-else ok' [] qs h = absurd (h refl)
  found-else ok' (r ∷ rs) qs h = by r.fault h (λ l. found-else ok' rs qs l)
    where
      by : (b : Bool) → (cond b r.said (first_or ok rs) ≡ ok → ⊥) →
          ((first_or ok rs ≡ ok → ⊥) → first_or ok' (rs ++ qs) ≡ first_or ok rs) →
          cond b r.said (first_or ok' (rs ++ qs)) ≡ cond b r.said (first_or ok rs)
      by true l g = refl
      by false l g = g l

  pub found : (rs qs : List (Row A)) → (first_or ok rs ≡ ok → ⊥) → first_or ok (rs ++ qs) ≡ first_or ok rs
  found rs qs h = found-else ok rs qs h

  -- and where it gives none, the second list gives the answer
  pub onward-else : (ok' : A) (rs qs : List (Row A)) → Refusing rs → first_or ok rs ≡ ok →
      first_or ok' (rs ++ qs) ≡ first_or ok' qs
  unfolding first_or
  onward-else ok' [] qs h e = refl
  onward-else ok' (r ∷ rs) qs h e = by r.fault e (λ l. onward-else ok' rs qs (rest-refusing r rs h) l)
    where
      by : (b : Bool) → cond b r.said (first_or ok rs) ≡ ok →
          (first_or ok rs ≡ ok → first_or ok' (rs ++ qs) ≡ first_or ok' qs) →
          cond b r.said (first_or ok' (rs ++ qs)) ≡ first_or ok' qs
      by true l g = absurd (h 0 (omega arith) l)
      by false l g = g l

  pub onward : (rs qs : List (Row A)) → Refusing rs → first_or ok rs ≡ ok → first_or ok (rs ++ qs) ≡ first_or ok qs
  onward rs qs h e = onward-else ok rs qs h e

-- ---- tests whose answers are results
module _ {T E : Type 0} where
  -- every test refuses
  abbrev pub all_err : List (Row (Result T E)) → Bool
  all_err [] = true
  all_err (r ∷ rs) = is_err r.said && all_err rs

  -- tests in two lists: behind Ok of the first list the second gives the answer
  pub in-turn : (none : T) (ok : Result T E) (rs qs : List (Row (Result T E))) → all_err rs ≡ true →
      first_or ok (rs ++ qs) ≡ result_and (first_or (Ok none) rs) (first_or ok qs)
  unfolding first_or
  in-turn none ok [] qs h = refl
  in-turn none ok (r ∷ rs) qs h = by r.fault r.said h (λ l. in-turn none ok rs qs l)
    where
      by : (b : Bool) (a : Result T E) → (is_err a && all_err rs) ≡ true →
          (all_err rs ≡ true → first_or ok (rs ++ qs) ≡ result_and (first_or (Ok none) rs) (first_or ok qs)) →
          cond b a (first_or ok (rs ++ qs)) ≡ result_and (cond b a (first_or (Ok none) rs)) (first_or ok qs)
      by b (Ok n) l g = absurd (true≢false (sym l))
      by true (Err e) l g = refl
      by false (Err e) l g = g l
