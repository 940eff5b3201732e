-- An insertion keeps every stem whole, and above the one before. Assumes nothing.
use mathlib.Core.Path.{◌≡◌, refl, sym, ap, ◌∙◌}
use mathlib.Core.Bool.{Bool, true, false, not, true≢false}
use mathlib.Core.List.{List, [], ◌∷◌, ◌++◌}
use Prim.Native.Nat.{ℕ, zero, suc, ◌≤◌}
use native.Mathlib.Omega.{arith}
use lib.Dec.{ltb}
use lib.ListN.{length, take, drop, length-replicate}
use lib.Signed.{◌<ℤ◌}
use borrow.Author.Tests.{not-true}
use Rattle.fixed.specs.declared.Fixed.{Fixed}
use Rattle.fixed.specs.Fixed.{less_f, at_most_f, same_f}
use Rattle.fixed.proofs.Order.{heights, not_same}
use Rattle.fixed.proofs.Tests.{both, both_false}
use Rattle.stems.specs.declared.edge.Hint.{Hint}
use Rattle.hintmap.specs.declared.map.HintMap.{HintMap}
use Rattle.hintmap.specs.declared.insert.Edges.{Edges}
use Rattle.hintmap.specs.declared.insert.Edges.TheVariants.{One, Two}
use Rattle.stems.specs.Edge.{no_hint, is_pair_top, pair_top_k}
use Rattle.hintmap.specs.Map.{new_map, invalid_map, valid_map, view, leading, place_among, count_by, clear_ahead}
use Rattle.hintmap.specs.Insert.{first_edge, edges_of, may_enter, bars, char_clear, put_edges, place_for, placed_for}
use Rattle.hintmap.specs.Insert.{insert_in}
use Rattle.hintmap.specs.WholeStems.{height, Past, WholeStems, none, one, two, Made, Alike}
use Rattle.hintmap.proofs.Near.{place-below}
use Rattle.hintmap.proofs.Alike.{alike_refl, alike-append, stems-alike}
use Rattle.hintmap.proofs.Enter.{placed-enters}
use Rattle.hintmap.proofs.View.{put, put-sized}
use Rattle.hintmap.proofs.Outcome.{Clear, placed_same, by-outcome, view-placed}

-- the last of the edges
top : Edges → Hint
top (One e) = e
top (Two b t) = t

-- not below, and not the same: above
apart : (a b : Fixed) → less_f a b ≡ false → same_f a b ≡ false → b.bits <ℤ a.bits
apart a b p q = go (less_f b a) refl
  where
    go : (t : Bool) → less_f b a ≡ t → b.bits <ℤ a.bits
    go true e = omega heights
    go false e = absurd (not_same a b q (omega heights))

-- what is put in, before a list that is above it
front : (n : ℕ) (e : Edges) → Made e → may_enter n e ≡ true → (xs : List Hint) → Past (height (top e)) xs →
    WholeStems xs → WholeStems (edges_of e ++ xs)
unfolding Made may_enter top
front n (One x) s f xs p r = one s p r
front n (Two b t) s f xs p r =
    let o : less_f (height t) (height b) ≡
    false = not-true _ (both (not (less_f (height t) (height b))) (ltb n 95) f).0 in
    two s (omega heights) p r

-- the edge x at the place does not bar it: x is above all that is put in
above : (e : Edges) (x : Hint) → less_f (height x) (height (first_edge e)) ≡ false → bars x e ≡ false →
    (height (top e)).bits <ℤ (height x).bits
unfolding bars top
above (One y) x p q = apart (height x) (height y) p (both_false _ (is_pair_top x) q).0
above (Two b t) x p q =
    let u : at_most_f (height x) (height t) ≡
    false = (both_false (is_pair_top x) _ (both_false (same_f (height x) (height b)) _ q).1).1 in
    omega heights

-- and no pair's top
bars-top : (e : Edges) (x : Hint) → bars x e ≡ false → is_pair_top x ≡ false
unfolding bars
bars-top (One y) x q = (both_false (same_f (height x) (height y)) _ q).1
bars-top (Two b t) x q =
    (both_false _ (at_most_f (height x) (height t)) (both_false (same_f (height x) (height b)) _ q).1).0

-- what is put in above z stays above z
past-put : (e : Edges) (z : Fixed) (es : List Hint) (at : ℕ) → Past z es → z.bits <ℤ (height (first_edge e)).bits →
    Past z (put es at e)
unfolding Past
past-put (One y) z es zero f l = l
past-put (One y) z [] (suc at) f l = l
past-put (One y) z (x ∷ xs) (suc at) f l = f
past-put (Two b t) z es zero f l = l
past-put (Two b t) z [] (suc at) f l = l
past-put (Two b t) z (x ∷ xs) (suc at) f l = f

module _ (n : ℕ) (e : Edges) (made : Made e) (fits : may_enter n e ≡ true) where
  abbrev at : List Hint → ℕ
  at es = place_among es (height (first_edge e))

  abbrev Free : List Hint → Type 0
  Free es = char_clear es e ≡ true

  -- before an edge that is not below it and does not bar it
  before : (x : Hint) (xs : List Hint) → less_f (height x) (height (first_edge e)) ≡ false → Free (x ∷ xs) →
      WholeStems (x ∷ xs) → WholeStems (edges_of e ++ (x ∷ xs))
  unfolding Past clear_ahead
  before x xs q c r = front n e made fits (x ∷ xs) (above e x q (not-true (bars x e) c)) r

  stems-put : {es : List Hint} → WholeStems es → Free (drop (at es) es) → WholeStems (put es (at es) e)
  unfolding leading Past clear_ahead
  stems-put none c = front n e made fits [] tt none
  stems-put (one {x} {xs} s f r) c = go (less_f (height x) (height (first_edge e))) refl (λ k. stems-put r k) c
    where
      go : (b : Bool) → less_f (height x) (height (first_edge e)) ≡ b →
          (Free (drop (at xs) xs) → WholeStems (put xs (at xs) e)) →
          Free (drop (count_by b (at xs)) (x ∷ xs)) → WholeStems (put (x ∷ xs) (count_by b (at xs)) e)
      go true q ih c = one s (past-put e (height x) xs (at xs) f (omega heights)) (ih c)
      go false q ih c = before x xs q c (one s f r)
  stems-put (two {b} {t} {xs} s o f r) c =
      go (less_f (height b) (height (first_edge e))) refl (less_f (height t) (height (first_edge e))) refl
      (λ k. stems-put r k) c
    where
      go : (k : Bool) → less_f (height b) (height (first_edge e)) ≡ k → (l : Bool) →
          less_f (height t) (height (first_edge e)) ≡ l →
          (Free (drop (at xs) xs) → WholeStems (put xs (at xs) e)) →
          Free (drop (count_by k (count_by l (at xs))) (b ∷ t ∷ xs)) →
          WholeStems (put (b ∷ t ∷ xs) (count_by k (count_by l (at xs))) e)
      go true q true q' ih c = two s o (past-put e (height t) xs (at xs) f (omega heights)) (ih c)
      go true q false q' ih c = absurd (true≢false (sym (ap pair_top_k s.top) ∙ bars-top e t (not-true (bars t e) c)))
      go false q l q' ih c = before b (t ∷ xs) q c (two s o f r)

-- ---- a map that is in order
pub record Good (m : HintMap) : Type 0 where
  pub within : m.len ≤ 96
  pub long : length m.edges ≡ 96
  pub stems : WholeStems (view m)

-- a new map is in order
pub new-good : (s : Fixed) → Good (new_map s)
new-good s = record { within = omega arith; long = length-replicate 96 no_hint; stems = none }

-- it stays so when it is made invalid or valid
pub invalid-good : (m : HintMap) → Good m → Good (invalid_map m)
invalid-good m g = record { within = g.within; long = g.long; stems = g.stems }

pub valid-good : (m : HintMap) → Good m → Good (valid_map m)
valid-good m g = record { within = g.within; long = g.long; stems = g.stems }

-- and when a stem's edges are put in or dropped
pub insert-good : (m : HintMap) (e : Edges) (initial : HintMap) (given : Bool) → Made e → Good m →
    Good (insert_in m e initial given)
insert-good m e initial given made g = by-outcome m e initial given Good g entered
  where
    at : ℕ
    at = place_for m e

    same : Alike (put (view m) at e) (put (view m) at (placed_for m e initial given))
    same =
        alike-append (alike_refl (take at (view m)))
        (alike-append (placed_same m e initial given) (alike_refl (drop at (view m))))

    entered : Clear m e initial given → Good (put_edges m at (placed_for m e initial given))
    entered c =
        let sized = put-sized m at (place-below m _) g.long (placed_for m e initial given)
        (placed-enters m e initial given ∙ c.entry) in
        record {
          within = sized.0;
          long = sized.1;
          stems =
              rw (view-placed m e initial given g.long c.entry)
              (stems-alike same (stems-put m.len e made c.entry g.stems c.character));
        }
