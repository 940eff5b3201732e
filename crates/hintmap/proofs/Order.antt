-- An insertion keeps the order of edges. Assumes nothing.
use mathlib.Core.Path.{◌≡◌, refl, sym, ap, subst, ◌∙◌}
use mathlib.Core.Bool.{Bool, true, false, not, ◌||◌}
use mathlib.Core.List.{List, [], ◌∷◌, ◌++◌}
use Prim.Native.Nat.{ℕ, ◌<◌}
use native.Mathlib.Omega.{arith}
use lib.Dec.{ltb}
use lib.ListN.{length, drop, get_or}
use lib.Signed.{◌≤ℤ◌}
use borrow.Author.Tests.{not-true}
use Rattle.fixed.specs.declared.Fixed.{Fixed}
use Rattle.fixed.specs.Fixed.{less_f, same_f, at_most_f}
use Rattle.fixed.proofs.Order.{heights}
use Rattle.fixed.proofs.Tests.{both, both_false}
use Rattle.stems.specs.declared.edge.Hint.{Hint}
use Rattle.stems.specs.Edge.{no_hint, is_pair_top}
use Rattle.hintmap.specs.declared.map.HintMap.{HintMap}
use Rattle.hintmap.specs.declared.insert.Edges.{Edges}
use Rattle.hintmap.specs.declared.insert.Edges.TheVariants.{One, Two}
use Rattle.hintmap.specs.Map.{view, count_by, leading, put_at, place_among, clear_ahead}
use Rattle.hintmap.specs.Insert.{first_edge, edges_of, may_enter, bars, char_clear, insert_in}
use Rattle.hintmap.specs.WholeStems.{height, Ascends}
use Rattle.hintmap.proofs.Words.{cons-ascends}
use Rattle.hintmap.proofs.Mapping.{tail-ascends}
use Rattle.hintmap.proofs.Outcome.{by-outcome, view-placed}
use Rattle.hintmap.proofs.Placed.{placed-none}

-- a height is no higher than the first of some edges
abbrev Under : Fixed → List Hint → Type 0
Under z es = 0 < length es → z.bits ≤ℤ (height (get_or es 0 no_hint)).bits

-- a pair that may enter is in order
pair-rises : (n : ℕ) (b t : Hint) → may_enter n (Two b t) ≡ true → (height b).bits ≤ℤ (height t).bits
unfolding may_enter
pair-rises n b t m =
    let k = not-true (less_f (height t) (height b)) (both (not (less_f (height t) (height b))) (ltb n 95) m).0 in
    omega heights

-- and no edge that is not in its way is under its top
clear-top : (b t : Hint) (xs : List Hint) → char_clear xs (Two b t) ≡ true → Under (height t) xs
unfolding bars clear_ahead
clear-top b t [] c l = absurd (omega arith)
clear-top b t (x ∷ xs) c l =
    let o = is_pair_top x || at_most_f (height x) (height t) in
    let p = (both_false (same_f (height x) (height b)) o (not-true (same_f (height x) (height b) || o) c)).1 in
    let q : at_most_f (height x) (height t) ≡ false = (both_false (is_pair_top x) (at_most_f (height x) (height t)) p).1
    in
    let r : (height t).bits ≤ℤ (height x).bits = omega heights in
    r

-- edges that may enter before others that are not in their way
front : (n : ℕ) (e : Edges) (xs : List Hint) → may_enter n e ≡ true → char_clear xs e ≡ true → Ascends xs →
    (0 < length xs → less_f (height (get_or xs 0 no_hint)) (first_edge e).cs_coord ≡ false) →
    Ascends (edges_of e ++ xs)
unfolding may_enter bars clear_ahead
front n (One y) xs m c a g = cons-ascends y xs (λ l. let k = g l in omega heights) a
front n (Two b t) xs m c a g =
    cons-ascends b (t ∷ xs) (λ _. pair-rises n b t m) (cons-ascends t xs (clear-top b t xs c) a)

first-is : (e : Edges) (xs : List Hint) → get_or (edges_of e ++ xs) 0 no_hint ≡ first_edge e
first-is (One y) xs = refl
first-is (Two b t) xs = refl

module _ (n : ℕ) (e : Edges) (m : may_enter n e ≡ true) where
  abbrev h : Fixed
  h = (first_edge e).cs_coord

  -- the edges put at a place among others
  abbrev put : List Hint → ℕ → List Hint
  put es at = put_at es at (edges_of e)

  -- they are in order, and what is under them and the others is under all
  abbrev Put : List Hint → ℕ → Type 0
  Put es at = Ascends (put es at) × ((z : Fixed) → z.bits ≤ℤ h.bits → Under z es → Under z (put es at))

  at_front : (xs : List Hint) → char_clear xs e ≡ true → Ascends xs →
      (0 < length xs → less_f (height (get_or xs 0 no_hint)) h ≡ false) → Put xs 0
  at_front xs c a g = (front n e xs m c a g, λ z p u _. rw (first-is e xs) p)

  one_on : (x : Hint) (xs : List Hint) (k : ℕ) (b : Bool) → less_f (height x) h ≡ b → Ascends (x ∷ xs) →
      char_clear (drop (count_by b k) (x ∷ xs)) e ≡ true → (char_clear (drop k xs) e ≡ true → Put xs k) →
      Put (x ∷ xs) (count_by b k)
  one_on x xs k true t a c ih =
      let r = ih c in (
        cons-ascends x (put xs k) (r.1 (height x) (omega heights) (λ l. a 0 1 (omega arith) (omega arith))) r.0,
        λ z p u _. u (omega arith),
      )
  one_on x xs k false t a c ih = at_front (x ∷ xs) c a (λ _. t)

  put-in-order : (es : List Hint) → Ascends es → char_clear (drop (place_among es h) es) e ≡ true →
      Put es (place_among es h)
  unfolding leading
  put-in-order [] a c = at_front [] c a (λ l. absurd (omega arith))
  put-in-order (x ∷ xs) a c =
      one_on x xs (place_among xs h) (less_f (height x) h) refl a c
      (λ d. put-in-order xs (tail-ascends x xs a) d)

module _ (m : HintMap) (e : Edges) (initial : HintMap) (long : length m.edges ≡ 96) (a : Ascends (view m)) where
  pub insert-ascends : Ascends (view (insert_in m e initial false))
  insert-ascends =
      by-outcome m e initial false (λ (q : HintMap). Ascends (view q)) a
      (λ c. subst Ascends (sym (view-placed m e initial false long c.entry ∙
      ap (λ (p : Edges). put_at (view m) (place_among (view m) (first_edge e).cs_coord) (edges_of p))
      (placed-none m e initial))) (put-in-order m.len e c.entry (view m) a c.character).0)
