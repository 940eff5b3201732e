-- Tests in their order, over answers of any kind: the first that holds gives the answer.
use Rattle.std.specs.Prelude.{◌≡◌, Bool, true, false, cond, List, [], ◌∷◌, ℕ, zero, suc, ◌<◌, length}

-- a test, and the refusal that is given where it holds
pub record Row (A : Type 0) : Type 0 where
  pub fault : Bool
  pub said : A

abbrev pub row : {A : Type 0} → Bool → A → Row A
row b a = record { fault = b; said = a }

-- the refusal of the first test that holds, or the answer for where none does
unfoldable pub first_or : {A : Type 0} → A → List (Row A) → A
first_or ok [] = ok
first_or ok (r ∷ rs) = cond r.fault r.said (first_or ok rs)

-- the test at a place, and its refusal
abbrev pub row_at : {A : Type 0} → A → List (Row A) → ℕ → Row A
row_at ok [] k = row false ok
row_at ok (r ∷ rs) zero = r
row_at ok (r ∷ rs) (suc k) = row_at ok rs k

-- the first test that holds is one with this refusal
pub record First {A : Type 0} (ok : A) (rs : List (Row A)) (a : A) : Type 0 where
  pub place : ℕ
  pub there : place < length rs
  pub holds : (row_at ok rs place).fault ≡ true
  pub says : (row_at ok rs place).said ≡ a
  pub before : (j : ℕ) → j < place → (row_at ok rs j).fault ≡ false
