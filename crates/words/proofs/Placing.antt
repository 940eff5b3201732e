-- Laws of entries placed among others: none, one more by a store, those behind others, and those
-- somewhere behind others, whichever come first; no entry is lost. Assumes nothing.
use mathlib.Core.Path.{◌≡◌, sym, ap, ◌∙◌}
use mathlib.Core.List.{List, [], ◌∷◌, ◌++◌, append_assoc}
use Prim.Native.Nat.{ℕ, suc, ◌+◌, ◌-◌, ◌≤◌, ◌<◌}
use native.Mathlib.Numerals.{add-one}
use native.Mathlib.Omega.{arith}
use lib.ListN.{length, take, drop, set, length-append, length-drop, take-append-drop}
use lib.Seq.{length-take-le, take-suc-set, drop-set-lt, take_at, drop_at, drop-drop, take-add, take-take}
use lib.Seq.{take-append-le, take-append-add}
use Rattle.words.specs.Bytes.{over, placed}

module _ {A : Type 0} (lent : List A) where
  -- from the start on they are written over what is lent
  pub placed-start : (xs : List A) → placed lent 0 xs ≡ over xs lent
  unfolding placed over
  placed-start xs =
      let e : 0 + length xs ≡ length xs = omega arith in
      ap (λ (n : ℕ). xs ++ drop n lent) e

  -- none change nothing
  pub placed-none : (i : ℕ) → placed lent i [] ≡ lent
  unfolding placed
  placed-none i =
      let e : i + 0 ≡ i = omega arith in
      rw e (take-append-drop i lent)

  -- the first of some is placed by a store
  pub placed-store : (i : ℕ) (x : A) (xs : List A) → i < length lent →
      placed (set lent i x) (i + 1) xs ≡ placed lent i (x ∷ xs)
  unfolding placed
  placed-store i x xs h =
      let n : i + 1 + length xs ≡ i + suc (length xs) = omega arith in
      let e : take (i + 1) (set lent i x) ≡ take i lent ++ x ∷ [] = rw add-one (take-suc-set lent i x h) in
      let f : drop (i + 1 + length xs) (set lent i x) ≡ drop (i + suc (length xs)) lent =
      drop-set-lt (i + 1 + length xs) lent i x (omega arith) ∙ ap (λ (k : ℕ). drop k lent) n in
      rw (e, f) (append_assoc (take i lent) (x ∷ []) (xs ++ drop (i + suc (length xs)) lent))

  module _ (i : ℕ) (xs : List A) (h : i + length xs ≤ length lent) where
    -- what is before them and they are as many as where they end
    front : length (take i lent ++ xs) ≡ i + length xs
    front = length-append (take i lent) xs ∙ ap (λ (n : ℕ). n + length xs) (length-take-le i lent (omega arith))

    -- as many as there were
    pub placed-length : length (placed lent i xs) ≡ length lent
    unfolding placed
    placed-length =
        ap length (sym (append_assoc (take i lent) xs (drop (i + length xs) lent))) ∙
        length-append (take i lent ++ xs) (drop (i + length xs) lent) ∙
        omega (arith, front, length-drop (i + length xs) lent)

    -- some behind others
    pub placed-behind : (ys : List A) (j : ℕ) → j ≡ i + length xs →
        placed (placed lent i xs) j ys ≡ placed lent i (xs ++ ys)
    unfolding placed
    placed-behind ys j e =
        let f = take i lent ++ xs in
        let n = i + length xs in
        let m : n + length ys ≡ i + length (xs ++ ys) = omega (arith, length-append xs ys) in
        let rest = drop (i + length (xs ++ ys)) lent in
        let fore : take n (f ++ drop n lent) ≡ f = take_at f (drop n lent) n front in
        let aft : drop (n + length ys) (f ++ drop n lent) ≡ rest =
        sym (drop-drop (length ys) n (f ++ drop n lent)) ∙ ap (drop (length ys)) (drop_at f (drop n lent) n front) ∙
        drop-drop (length ys) n lent ∙ ap (λ (k : ℕ). drop k lent) m in
        rw (e, sym (append_assoc (take i lent) xs (drop n lent)), fore, aft)
        (append_assoc (take i lent) xs (ys ++ rest) ∙
        ap (λ (l : List A). take i lent ++ l) (sym (append_assoc xs ys rest)))

    -- some further on: either may be placed first
    module _ (ys : List A) (j : ℕ) (k : i + length xs ≤ j) (l : j + length ys ≤ length lent) where
      abbrev between : List A
      between = take (j - (i + length xs)) (drop (i + length xs) lent)

      abbrev behind : List A
      behind = drop (j + length ys) lent

      first_then : placed (placed lent i xs) j ys ≡ take i lent ++ (xs ++ (between ++ (ys ++ behind)))
      unfolding placed
      first_then =
          let n = i + length xs in
          let f = take i lent ++ xs in
          let d = drop n lent in
          let e : j ≡ length f + (j - n) = omega (arith, front) in
          let g : n + (length ys + (j - n)) ≡ j + length ys = omega arith in
          let fore : take j (f ++ d) ≡ f ++ between =
          ap (λ (m : ℕ). take m (f ++ d)) e ∙ take-append-add f d (j - n) in
          let aft : drop (j + length ys) (f ++ d) ≡ behind =
          ap (λ (m : ℕ). drop m (f ++ d)) (sym g) ∙ sym (drop-drop (length ys + (j - n)) n (f ++ d)) ∙
          ap (drop (length ys + (j - n))) (drop_at f d n front) ∙ drop-drop (length ys + (j - n)) n lent ∙
          ap (λ (m : ℕ). drop m lent) g in
          rw (sym (append_assoc (take i lent) xs d), fore, aft)
          (append_assoc f between (ys ++ behind) ∙ append_assoc (take i lent) xs (between ++ (ys ++ behind)))

      then-first : placed (placed lent j ys) i xs ≡ take i lent ++ (xs ++ (between ++ (ys ++ behind)))
      unfolding placed
      then-first =
          let n = i + length xs in
          let e : n + (j - n) ≡ j = omega arith in
          let long = length-take-le j lent (omega arith) in
          let split : take j lent ≡ take n lent ++ between =
          ap (λ (m : ℕ). take m lent) (sym e) ∙ take-add n (j - n) lent in
          let fore : take i (take j lent ++ (ys ++ behind)) ≡ take i lent =
          take-append-le i (take j lent) (ys ++ behind) (omega arith) ∙ take-take i j lent (omega arith) in
          let aft : drop n (take j lent ++ (ys ++ behind)) ≡ between ++ (ys ++ behind) =
          ap (λ (q : List A). drop n (q ++ (ys ++ behind))) split ∙
          ap (drop n) (append_assoc (take n lent) between (ys ++ behind)) ∙
          drop_at (take n lent) (between ++ (ys ++ behind)) n (length-take-le n lent (omega arith)) in
          rw (fore, aft)

      pub placed-either : placed (placed lent i xs) j ys ≡ placed (placed lent j ys) i xs
      placed-either = first_then ∙ sym then-first
