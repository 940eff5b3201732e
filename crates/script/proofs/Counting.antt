-- Laws of the count of records: as many turns as there are words are enough, and one record more.
-- Assumes nothing.
use mathlib.Core.Path.{◌≡◌, refl, sym, ap, ◌∙◌}
use mathlib.Core.Bool.{Bool, true, false, ◌||◌}
use mathlib.Core.List.{List, [], ◌∷◌}
use Prim.Native.Nat.{ℕ, zero, suc, ◌+◌, ◌-◌, ◌≤◌, ◌<◌}
use native.Mathlib.Omega.{arith}
use lib.Dec.{eqb}
use lib.IntN.{ℤ, pos, negsuc}
use lib.ListN.{length, drop, get_or, length-drop, drop_of_length-le}
use lib.Seq.{drop-cons, drop-drop}
use Rattle.script.specs.Count.{size_by, size_of, records_by, records_in}

-- a record takes from 1 to 7 words
pub sizes : (k : ℤ) → (1 ≤ size_of k) × (size_of k ≤ 7)
unfolding size_of
sizes (pos n) = by (eqb n 1 || eqb n 2) (eqb n 3)
  where
    by : (a b : Bool) → (1 ≤ size_by a b) × (size_by a b ≤ 7)
    by true b = (omega arith, omega arith)
    by false true = (omega arith, omega arith)
    by false false = (omega arith, omega arith)
sizes (negsuc n) = (omega arith, omega arith)

-- no words have no records
none-by : (f : ℕ) → records_by f [] ≡ 0
unfolding records_by
none-by zero = refl
none-by (suc f) = refl

no_words : (ws : List ℤ) → length ws ≤ 0 → ws ≡ []
no_words [] h = refl
no_words (w ∷ ws) h = absurd (no h)
  where
    no : suc (length ws) ≤ 0 → ⊥
    no h = omega arith

pub enough : (f g : ℕ) (ws : List ℤ) → length ws ≤ f → length ws ≤ g → records_by f ws ≡ records_by g ws
unfolding records_by
enough zero g ws h k = rw (no_words ws h) (sym (none-by g))
enough (suc f) zero ws h k = rw (no_words ws k)
enough (suc f) (suc g) [] h k = refl
enough (suc f) (suc g) (w ∷ ws) h k =
    let l = length-drop (size_of w - 1) ws in
    ap suc (enough f g (drop (size_of w - 1) ws) (omega (arith, l)) (omega (arith, l)))

module _ (ws : List ℤ) (at : ℕ) where
  -- one record more
  pub count-step : at < length ws →
      records_in (drop at ws) ≡ suc (records_in (drop (at + size_of (get_or ws at (pos 0))) ws))
  unfolding records_in records_by
  count-step h =
      let w = get_or ws at (pos 0) in
      let e = drop-cons ws at (pos 0) h in
      let t = drop (suc at) ws in
      let n : suc at + (size_of w - 1) ≡ at + size_of w = omega (arith, sizes w) in
      let d : drop (size_of w - 1) t ≡ drop (at + size_of w) ws = drop-drop (size_of w - 1) (suc at) ws ∙
      ap (λ (k : ℕ). drop k ws) n in
      ap records_in e ∙
      ap suc (enough (length t) (length (drop (size_of w - 1) t)) (drop (size_of w - 1) t)
      (omega (arith, length-drop (size_of w - 1) t)) (omega arith) ∙ ap records_in d)

  -- and none past the end
  pub count-end : length ws ≤ at → records_in (drop at ws) ≡ 0
  unfolding records_in
  count-end h = ap records_in (drop_of_length-le ws h) ∙ none-by 0

few-by : (f : ℕ) (ws : List ℤ) → records_by f ws ≤ f
unfolding records_by
few-by zero ws = omega arith
few-by (suc f) [] = omega arith
few-by (suc f) (w ∷ ws) = omega (arith, few-by f (drop (size_of w - 1) ws))

-- there are no more records than words
pub few-records : (ws : List ℤ) → records_in ws ≤ length ws
unfolding records_in
few-records ws = few-by (length ws) ws
