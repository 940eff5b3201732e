-- A count that is cut to the room of a list counts the same elements. Assumes nothing.
use Rattle.std.proofs.Common.{◌≡◌, ℕ, min, Bool, true, false, ltb, List, length, take, sym, refl, ◌∙◌, arith, take_all}
use Rattle.std.proofs.Common.{ltb-false, ltb-true}

pub take-least : {A : Type 0} (n k : ℕ) (xs : List A) → length xs ≡ k → take (min n k) xs ≡ take n xs
take-least n k xs e = go (ltb n k) refl
  where
    go : (t : Bool) → ltb n k ≡ t → take (min n k) xs ≡ take n xs
    go true h =
        let m : min n k ≡ n = omega (arith, ltb-true n k h) in
        rw m
    go false h =
        let m : min n k ≡ k = omega (arith, ltb-false n k h) in
        rw m (take_all k xs (omega arith) ∙ sym (take_all n xs (omega (arith, ltb-false n k h))))
