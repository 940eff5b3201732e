-- The first n of a list, gone through from place i on, as loops over counted lists do, and the part of
-- it that lies behind k others. Assumes nothing.
use mathlib.Core.Path.{◌≡◌, refl, sym, ap, ◌∙◌}
use mathlib.Core.Bool.{Bool, true, false}
use mathlib.Core.List.{List, [], ◌∷◌}
use Prim.Native.Nat.{ℕ, min, ◌+◌, ◌-◌, ◌≤◌, ◌<◌}
use native.Mathlib.Numerals.{add-one}
use native.Mathlib.Omega.{arith}
use lib.ListN.{length, take, drop, get_or, length-take, drop_of_length-le}
use lib.Seq.{drop-cons, get_or-take}
use borrow.Author.Tests.{leb-true, leb-false}
use Rattle.std.specs.Prelude.{leb}
use Rattle.std.proofs.lemmas.List.{drop-take}

module _ {A : Type 0} (n : ℕ) (xs : List A) (fits : n ≤ length xs) (i : ℕ) where
  -- place i, then those from i + 1 on
  pub taken_more : (d : A) → i < n → drop i (take n xs) ≡ get_or xs i d ∷ drop (i + 1) (take n xs)
  taken_more d l =
      let k : i < length (take n xs) = simp length-take (omega arith) in
      rw (drop-cons (take n xs) i d k, get_or-take n xs i d l, add-one i)

  -- none are left
  pub taken-ends : n ≤ i → drop i (take n xs) ≡ []
  taken-ends l =
      let k : length (take n xs) ≤ i = simp length-take (omega arith) in
      drop_of_length-le (take n xs) k

-- a part from place k on, or none if the end comes first
pub behind-others : {A : Type 0} (k n : ℕ) (xs : List A) →
    take (n - min k n) (drop (min k n) xs) ≡ drop k (take n xs)
behind-others k n xs = go (leb k n) refl
  where
    go : (t : Bool) → leb k n ≡ t → take (n - min k n) (drop (min k n) xs) ≡ drop k (take n xs)
    go true h =
        let m : min k n ≡ k = omega (arith, leb-true k n h) in
        let e : k + (n - k) ≡ n = omega (arith, leb-true k n h) in
        rw m (sym (drop-take k (n - k) xs) ∙ ap (λ (j : ℕ). drop k (take j xs)) e)
    go false h =
        let m : min k n ≡ n = omega (arith, leb-false k n h) in
        let z : n - n ≡ 0 = omega arith in
        let few : length (take n xs) ≤ k = omega (arith, length-take n xs, leb-false k n h) in
        rw (m, z) (sym (drop_of_length-le (take n xs) few))
