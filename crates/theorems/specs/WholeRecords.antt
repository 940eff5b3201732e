-- Whole records (01, "Path records").
use Rattle.std.specs.Prelude.{List, [], ◌∷◌, ◌++◌, ℕ, zero, suc, ℤ, pos}

-- the words of one record
pub data Record : List ℤ → Type 0 where
  move : (x y : ℤ) → Record (pos 1 ∷ x ∷ y ∷ [])
  line : (x y : ℤ) → Record (pos 2 ∷ x ∷ y ∷ [])
  curve : (x1 y1 x2 y2 x y : ℤ) → Record (pos 3 ∷ x1 ∷ y1 ∷ x2 ∷ y2 ∷ x ∷ y ∷ [])
  close : Record (pos 4 ∷ [])
  finish : Record (pos 5 ∷ [])

-- so many records, one behind the other
pub data WholeRecords : ℕ → List ℤ → Type 0 where
  none : WholeRecords zero []
  first : {n : ℕ} {r ws : List ℤ} → Record r → WholeRecords n ws → WholeRecords (suc n) (r ++ ws)
