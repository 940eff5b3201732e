-- The moves of notes go into a list that may hold anything: none of its places is read before its note
-- is made. Assumes nothing.
use mathlib.Core.Path.{◌≡◌, refl, sym, ◌∙◌}
use mathlib.Core.Bool.{Bool, true, false, cond}
use mathlib.Core.List.{List, [], ◌∷◌, map}
use Prim.Native.Nat.{ℕ, zero, suc, ◌+◌, ◌<◌}
use native.Mathlib.Omega.{arith}
use lib.IntN.{ℤ}
use lib.Dec.{ltb}
use lib.ListN.{length, get_or, set, replicate, length-set, length-map}
use lib.Seq.{get_or-set_other}
use borrow.Author.Tests.{ltb-true, ltb-false}
use Rattle.fixed.specs.declared.Fixed.{Fixed}
use Rattle.fixed.specs.Fixed.{from_bits, ZERO}
use Rattle.hintmap.specs.declared.map.HintMap.{HintMap}
use Rattle.std.proofs.Common.{Option, Some, None}
use Rattle.adjust.specs.Pass.{Notes, Pass, upper_of, noted_of, turn_of, pass_from, first_pass}
use Rattle.adjust.specs.Second.{second_pass, second_of, adjust_of}
use Rattle.adjust.specs.Adjusted.{notes_in}
use Rattle.adjust.proofs.Turns.{so_far}

-- lists of one length whose first moves are the same
record Agree (c : ℕ) (l l' : List Fixed) : Type 0 where
  long : length l ≡ length l'
  same : (k : ℕ) → k < c → get_or l k ZERO ≡ get_or l' k ZERO

put_same : (l l' : List Fixed) (c : ℕ) (x : Fixed) → length l ≡ length l' →
    get_or (set l c x) c ZERO ≡ get_or (set l' c x) c ZERO
put_same [] [] c x e = refl
put_same [] (b ∷ l') c x e = absurd (omega arith)
put_same (a ∷ l) [] c x e = absurd (omega arith)
put_same (a ∷ l) (b ∷ l') zero x e = refl
put_same (a ∷ l) (b ∷ l') (suc c) x e = put_same l l' c x (omega arith)

-- a move put at the next place of both
agree-put : (c : ℕ) (x : Fixed) (l l' : List Fixed) → Agree c l l' → Agree (c + 1) (set l c x) (set l' c x)
agree-put c x l l' a =
    record {
      long = length-set l c x ∙ a.long ∙ sym (length-set l' c x);
      same = λ k p. go k p (ltb k c) refl;
    }
  where
    go : (k : ℕ) → k < c + 1 → (b : Bool) → ltb k c ≡ b → get_or (set l c x) k ZERO ≡ get_or (set l' c x) k ZERO
    go k p true e =
        let q = ltb-true k c e in
        get_or-set_other l c k x ZERO (λ z. omega arith) ∙ a.same k q ∙
        sym (get_or-set_other l' c k x ZERO (λ z. omega arith))
    go k p false e =
        let z : k ≡ c = omega (arith, ltb-false k c e) in
        rw z (put_same l l' c x a.long)

abbrev noted : List ℕ → List Fixed → ℕ → Notes
noted at l c = record { at = at; by = l; count = c }

-- the second pass reads the notes that are made
second-same : (k : ℕ) (at : List ℕ) (c : ℕ) (l l' : List Fixed) (m : HintMap) → Agree k l l' →
    second_pass k (noted at l c) m ≡ second_pass k (noted at l' c) m
unfolding second_pass
second-same zero at c l l' m a = refl
second-same (suc k) at c l l' m a =
    rw (a.same k (omega arith))
    (second-same k at c l l' _ (record { long = a.long; same = λ j p. a.same j (omega arith) }))

-- and the first pass reads none: with other moves past the notes it comes to the same
abbrev Same : ℕ → Type 0
Same n = (i : ℕ) (m : HintMap) (at : List ℕ) (c : ℕ) (l l' : List Fixed) → Agree c l l' →
    second_of (pass_from n i (so_far m (noted at l c))) ≡ second_of (pass_from n i (so_far m (noted at l' c)))

turn-same : (n : ℕ) → Same n → (i j : ℕ) (m : HintMap) (at : List ℕ) (c : ℕ) (l l' : List Fixed) → Agree c l l' →
    (t : Option Fixed) → second_of (pass_from n i (so_far m (noted_of (noted at l c) j t))) ≡
    second_of (pass_from n i (so_far m (noted_of (noted at l' c) j t)))
unfolding noted_of
turn-same n f i j m at c l l' a None = f i m at c l l' a
turn-same n f i j m at c l l' a (Some x) =
    f i m (set at c j) (c + 1) (set l c x) (set l' c x) (agree-put c x l l' a)

by-test : (b : Bool) (p p' q q' : Pass) → second_of p ≡ second_of p' → second_of q ≡ second_of q' →
    second_of (cond b p q) ≡ second_of (cond b p' q')
by-test true p p' q q' e f = e
by-test false p p' q q' e f = f

pass_same : (n : ℕ) → Same n
unfolding pass_from turn_of
pass_same zero i m at c l l' a = second-same c at c l l' m a
pass_same (suc n) i m at c l l' a =
    by-test (ltb i m.len) _ _ _ _ (turn-same n (pass_same n) (upper_of m i + 1) (upper_of m i) _ at c l l' a _)
    (second-same c at c l l' m a)

-- so the map is adjusted, whatever lies where the moves go
pub adjusted-by : (m : HintMap) (by : List ℤ) → length by ≡ 96 →
    second_of (first_pass (so_far m (notes_in (replicate 96 0) by 0))) ≡ adjust_of m
unfolding adjust_of first_pass notes_in
adjusted-by m by e =
    pass_same m.len 0 m (replicate 96 0) 0 (map from_bits by) (replicate 96 ZERO)
    (record { long = length-map by from_bits ∙ e; same = λ k p. absurd (omega arith) })
