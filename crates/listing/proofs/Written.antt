-- A list that is written to from its start on, an element a turn, is in the end the new elements
-- over what was lent. Assumes nothing.
use mathlib.Core.Path.{◌≡◌, refl, sym, ◌∙◌, ap}
use mathlib.Core.List.{List, [], ◌∷◌, ◌++◌}
use Prim.Native.Nat.{ℕ, zero, suc, ◌+◌, ◌<◌, ◌≤◌}
use native.Mathlib.Omega.{arith}
use lib.ListN.{length, set, length-set, take}
use lib.Seq.{length-take-le, take-length}
use Rattle.words.specs.Bytes.{over, placed}
use Rattle.words.proofs.Placing.{placed-start, placed-none, placed-store, placed-behind}

module _ {A : Type 0} (lent : List A) (f : ℕ → A) where
  -- what is lent, with its first i elements written, each by f
  abbrev pub written : ℕ → List A
  written zero = lent
  written (suc i) = set (written i) i (f i)

  pub written-length : (i : ℕ) → length (written i) ≡ length lent
  written-length zero = refl
  written-length (suc i) = length-set (written i) i (f i) ∙ written-length i

  module _ (xs : List A) (room : length xs ≤ length lent)
      (more : (i : ℕ) → i < length xs → take (i + 1) xs ≡ take i xs ++ (f i ∷ [])) where
    -- they are placed at its start
    written-placed : (i : ℕ) → i ≤ length xs → written i ≡ placed lent 0 (take i xs)
    written-placed zero l = sym (placed-none lent 0)
    written-placed (suc i) l =
        let next : i + 1 ≡ suc i = omega arith in
        let front : length (take i xs) ≡ i = length-take-le i xs (omega arith) in
        sym (placed-none (written (suc i)) (i + 1)) ∙
        placed-store (written i) i (f i) [] (omega (arith, l, room, written-length i)) ∙
        ap (λ (zs : List A). placed zs i (f i ∷ [])) (written-placed i (omega arith)) ∙
        placed-behind lent 0 (take i xs) (omega (arith, l, room, front)) (f i ∷ []) i (omega (arith, front)) ∙
        ap (placed lent 0) (sym (more i l) ∙ ap (λ (k : ℕ). take k xs) next)

    pub written_over : written (length xs) ≡ over xs lent
    written_over =
        written-placed (length xs) (omega arith) ∙ ap (placed lent 0) (take-length xs) ∙ placed-start lent xs
