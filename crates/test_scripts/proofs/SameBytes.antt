-- Equality of bytes as the library tests it. Assumes nothing.
use Rattle.std.proofs.Common.{◌≡◌, ℕ, Bool, ◌&&◌, nat_eq, List, [], ◌∷◌, refl, ap}
use lib.Pointwise.{pointwise}
use Rattle.test_scripts.specs.Again.{same_bytes}

pub same : (xs ys : List ℕ) → pointwise nat_eq xs ys ≡ same_bytes xs ys
unfolding same_bytes
same [] [] = refl
same [] (y ∷ ys) = refl
same (x ∷ xs) [] = refl
same (x ∷ xs) (y ∷ ys) = ap (λ (b : Bool). nat_eq x y && b) (same xs ys)
