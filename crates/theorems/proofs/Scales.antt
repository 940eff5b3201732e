-- The first pass of adjusting sets the scales of `Scaled`, and the second keeps them. Edges are put
-- back one at a time, from below: before edge i is, each edge k with k + 1 < i has the scale of its
-- line to edge k + 1, and those from i − 1 on have the scales that they had. Assumes nothing.
use mathlib.Core.Path.{◌≡◌, refl, sym, ap, subst, ◌∙◌}
use mathlib.Core.Bool.{Bool, true, false, cond}
use mathlib.Core.List.{List, [], ◌∷◌, map}
use Prim.Native.Nat.{ℕ, zero, suc, ◌+◌, ◌-◌, ◌≤◌, ◌<◌}
use native.Mathlib.Omega.{arith}
use lib.Dec.{ltb, eqb}
use lib.ListN.{length, take, get_or, set, length-set, get_or-map}
use lib.Seq.{get_or-take, get_or-set_same, get_or-set_other, set-set}
use borrow.Author.Tests.{ltb-true, ltb-false, eqb-true, eqb-false}
use Rattle.fixed.specs.declared.Fixed.{Fixed}
use Rattle.fixed.specs.Fixed.{ZERO, same_f}
use Rattle.fixed.proofs.Order.{same-is, is_same}
use Rattle.stems.specs.declared.edge.Hint.{Hint}
use Rattle.stems.specs.Edge.{no_hint, is_pair}
use Rattle.hintmap.specs.declared.map.HintMap.{HintMap}
use Rattle.hintmap.specs.Map.{view}
use Rattle.hintmap.proofs.WholeStems.{Good}
use Rattle.std.proofs.Common.{Option}
use Rattle.adjust.specs.Adjust.{edge_at, above_of, below_of, moved_hint, settle_by, settle_of, at_scale, slope}
use Rattle.adjust.specs.Adjust.{rescaled_by}
use Rattle.adjust.specs.Adjust.{rescaled_hint, with_edge}
use Rattle.adjust.specs.Pass.{Pass, next_place, upper_of, put_back, turn_of, pass_from, first_pass}
use Rattle.adjust.specs.Second.{start_of, adjust_of}
use Rattle.adjust.proofs.Keeps.{scales, first-kept, adjust-kept, adjust-scales}
use Rattle.adjust.proofs.Turns.{upper_is}
use Rattle.theorems.specs.Reached.{edge}
use Rattle.theorems.specs.Fitting.{Scaled}

-- ---- the scale of an edge below another
-- an edge without its scale
abbrev bare : Hint → Hint
bare e = at_scale e ZERO

-- the scale of edge b below edge a: the slope of their line, or s where their character heights do
-- not differ
abbrev line_scale : Fixed → Hint → Hint → Fixed
line_scale s b a = cond (same_f a.cs_coord b.cs_coord) s (slope b a)

-- where they differ
line-differs : (s : Fixed) (b a : Hint) → (b.cs_coord ≡ a.cs_coord → ⊥) → line_scale s b a ≡ slope b a
line-differs s b a d = go (same_f a.cs_coord b.cs_coord) refl
  where
    go : (t : Bool) → same_f a.cs_coord b.cs_coord ≡ t → cond t s (slope b a) ≡ slope b a
    go true e = absurd (d (sym (same-is a.cs_coord b.cs_coord e)))
    go false e = refl

-- and where they do not
line_same : (s : Fixed) (b a : Hint) → b.cs_coord ≡ a.cs_coord → line_scale s b a ≡ s
line_same s b a e = ap (λ (t : Bool). cond t s (slope b a)) (is_same a.cs_coord b.cs_coord (sym e))

-- it is the same for edges that differ in their scales only
line-bare : {s t : Fixed} (b c a d : Hint) → s ≡ t → bare b ≡ bare c → bare a ≡ bare d →
    line_scale s b a ≡ line_scale t c d
line-bare b c a d p q r = λ i. line_scale (p i) (q i) (r i)

-- an edge before another gets this scale
rescaled-scale : (b a : Hint) → (rescaled_hint b a).scale ≡ line_scale b.scale b a
unfolding rescaled_hint
rescaled-scale b a = go (same_f a.cs_coord b.cs_coord)
  where
    go : (t : Bool) → (rescaled_by t b a).scale ≡ cond t b.scale (slope b a)
    go true = refl
    go false = refl

-- and nothing else of it changes
rescaled-bare : (b a : Hint) → bare (rescaled_hint b a) ≡ bare b
unfolding rescaled_hint
rescaled-bare b a = go (same_f a.cs_coord b.cs_coord)
  where
    go : (t : Bool) → bare (rescaled_by t b a) ≡ bare b
    go true = refl
    go false = refl

-- ---- one edge put back
-- edge i, and the edge before it with the scale of its line to it
abbrev put_next : HintMap → ℕ → Hint → HintMap
put_next n i e = with_edge (with_edge n (i - 1) (rescaled_hint (edge_at n (i - 1)) e)) i e

-- edge k of n has the scale of its line to edge k + 1, or where there is none the scale that it has
-- in m
abbrev OnLine : HintMap → HintMap → ℕ → Type 0
OnLine m n k = (edge_at n k).scale ≡ line_scale (edge_at m k).scale (edge_at n k) (edge_at n (k + 1))

-- n is m with its edges below i put back
record Along (m n : HintMap) (i : ℕ) : Type 0 where
  pub len : n.len ≡ m.len
  pub fits : m.len ≤ length n.edges
  pub inside : i ≤ m.len
  pub passed : (k : ℕ) → k + 1 < i → OnLine m n k
  pub ahead : (k : ℕ) → i ≤ k + 1 → (edge_at n k).scale ≡ (edge_at m k).scale

module _ (m n : HintMap) (i : ℕ) (e : Hint) (h : Along m n i) (l : i < m.len) where
  -- the edge is there
  put-at : edge_at (put_next n i e) i ≡ e
  put-at =
      get_or-set_same (set n.edges (i - 1) (rescaled_hint (edge_at n (i - 1)) e)) i e no_hint
      (rw length-set (omega (arith, h.fits)))

  -- the edge before it has its line
  put-before : (k : ℕ) → k + 1 ≡ i → edge_at (put_next n i e) k ≡ rescaled_hint (edge_at n k) e
  put-before k q =
      let z : i - 1 ≡ k = omega arith in
      get_or-set_other (set n.edges (i - 1) (rescaled_hint (edge_at n (i - 1)) e)) i k e no_hint (omega arith) ∙
      rw z (get_or-set_same n.edges k (rescaled_hint (edge_at n k) e) no_hint (omega (arith, h.fits)))

  -- every other edge stays
  put_other : (k : ℕ) → (k ≡ i → ⊥) → (k + 1 ≡ i → ⊥) → edge_at (put_next n i e) k ≡ edge_at n k
  put_other k p q =
      get_or-set_other (set n.edges (i - 1) (rescaled_hint (edge_at n (i - 1)) e)) i k e no_hint p ∙
      get_or-set_other n.edges (i - 1) k (rescaled_hint (edge_at n (i - 1)) e) no_hint (omega arith)

  -- so below edge i only a scale changes
  put-bare : (k : ℕ) → k < i → bare (edge_at (put_next n i e) k) ≡ bare (edge_at n k)
  put-bare k p = go (eqb (k + 1) i) refl
    where
      go : (t : Bool) → eqb (k + 1) i ≡ t → bare (edge_at (put_next n i e) k) ≡ bare (edge_at n k)
      go true q = ap bare (put-before k (eqb-true (k + 1) i q)) ∙ rescaled-bare (edge_at n k) e
      go false q = ap bare (put_other k (omega arith) (eqb-false (k + 1) i q))

  -- the edges below it have the scales of their lines
  put-passed : (k : ℕ) → k + 1 < i + 1 → OnLine m (put_next n i e) k
  put-passed k p = go (eqb (k + 1) i) refl
    where
      go : (t : Bool) → eqb (k + 1) i ≡ t → OnLine m (put_next n i e) k
      go true q =
          let z = eqb-true (k + 1) i q in
          ap (λ (x : Hint). x.scale) (put-before k z) ∙ rescaled-scale (edge_at n k) e ∙
          line-bare (edge_at n k) (edge_at (put_next n i e) k) e (edge_at (put_next n i e) (k + 1))
          (h.ahead k (omega arith)) (sym (put-bare k (omega arith))) (rw z (ap bare (sym put-at)))
      go false q =
          let z = eqb-false (k + 1) i q in
          ap (λ (x : Hint). x.scale) (put_other k (omega arith) z) ∙ h.passed k (omega arith) ∙
          line-bare (edge_at n k) (edge_at (put_next n i e) k) (edge_at n (k + 1)) (edge_at (put_next n i e) (k + 1))
          refl (sym (put-bare k (omega arith))) (sym (put-bare (k + 1) (omega arith)))

  -- and the others keep their scales
  put-ahead : e.scale ≡ (edge_at n i).scale → (k : ℕ) → i + 1 ≤ k + 1 →
      (edge_at (put_next n i e) k).scale ≡ (edge_at m k).scale
  put-ahead s k p = go (eqb k i) refl
    where
      go : (t : Bool) → eqb k i ≡ t → (edge_at (put_next n i e) k).scale ≡ (edge_at m k).scale
      go true q = rw (eqb-true k i q) (ap (λ (x : Hint). x.scale) put-at ∙ s ∙ h.ahead i (omega arith))
      go false q = ap (λ (x : Hint). x.scale) (put_other k (eqb-false k i q) (omega arith)) ∙ h.ahead k (omega arith)

  -- so with the scale that it had, the edge is put back
  put_along : e.scale ≡ (edge_at n i).scale → Along m (put_next n i e) (i + 1)
  put_along s =
      record {
        len = h.len;
        fits = simp length-set h.fits;
        inside = omega arith;
        passed = put-passed;
        ahead = put-ahead s;
      }

-- ---- a hint put back
-- the one edge of a ghost
put_one : (n : HintMap) (i : ℕ) (e : Hint) → put_back n i i e e ≡ put_next n i e
put_one n i e = rw set-set

-- the two of a pair
put_two : (n : HintMap) (i : ℕ) (low high : Hint) → i < length n.edges →
    put_back n i (i + 1) low high ≡ put_next (put_next n i low) (i + 1) high
put_two n i low high l =
    let z : i + 1 - 1 ≡ i = omega arith in
    let s : i < length (set n.edges (i - 1) (rescaled_hint (edge_at n (i - 1)) low)) = rw length-set l in
    rw (z, get_or-set_same, set-set)

-- settling sets no scale
settle-scale : (b : Bool) (below : Option Hint) (low high : Hint) (above : Option Hint) →
    ((settle_by b below low high above).low.scale ≡ low.scale) ×
    ((settle_by b below low high above).high.scale ≡ high.scale)
unfolding moved_hint
settle-scale true below low high above = (refl, refl)
settle-scale false below low high above = (refl, refl)

-- and the one edge of a ghost stays one
settle-one : (b : Bool) (below : Option Hint) (e : Hint) (above : Option Hint) →
    (settle_by b below e e above).low ≡ (settle_by b below e e above).high
settle-one true below e above = refl
settle-one false below e above = refl

module _ (m : HintMap) (i : ℕ) (p : Pass) (h : Along m p.map i) where
  -- a turn of a ghost
  turn_one : i < m.len → Along m (turn_of i i p).map (i + 1)
  unfolding turn_of settle_of
  turn_one l =
      let n = p.map in
      let e = edge_at n i in
      let t = settle_by e.locked (below_of n i) e e (above_of n i) in
      rw (settle-one e.locked (below_of n i) e (above_of n i), put_one n i t.high)
      (put_along m n i t.high h l (settle-scale e.locked (below_of n i) e e (above_of n i)).1)

  -- a turn of a pair
  turn_two : i + 1 < m.len → Along m (turn_of i (i + 1) p).map (i + 1 + 1)
  unfolding turn_of settle_of
  turn_two l =
      let n = p.map in
      let low = edge_at n i in
      let high = edge_at n (i + 1) in
      let t = settle_by low.locked (below_of n i) low high (above_of n (i + 1)) in
      let s = settle-scale low.locked (below_of n i) low high (above_of n (i + 1)) in
      let q = put_along m n i t.low h (omega arith) s.0 in
      let o = put_other m n i t.low h (omega arith) (i + 1) (omega arith) (omega arith) in
      rw (put_two n i t.low t.high (omega (arith, h.fits)))
      (put_along m (put_next n i t.low) (i + 1) t.high q l (s.1 ∙ ap (λ (x : Hint). x.scale) (sym o)))

  -- any turn puts back the hint at i
  turn_along : i < m.len → Along m (turn_of i (upper_of p.map i) p).map (upper_of p.map i + 1)
  unfolding upper_of next_place
  turn_along l = go (is_pair (edge_at p.map i)) (ltb (i + 1) p.map.len) refl
    where
      go : (pair more : Bool) → ltb (i + 1) p.map.len ≡ more →
          Along m (turn_of i (cond pair (cond more (i + 1) i) i) p).map (cond pair (cond more (i + 1) i) i + 1)
      go false more e = turn_one l
      go true false e = turn_one l
      go true true e = turn_two (omega (arith, ltb-true (i + 1) p.map.len e, h.len))

-- ---- the pass
-- past the last edge all are put back
along-ends : (m n : HintMap) (i : ℕ) → Along m n i → m.len ≤ i → Along m n m.len
along-ends m n i h l =
    let z : i ≡ m.len = omega (arith, h.inside) in
    subst (Along m n) z h

-- from any of its turns the pass puts back every edge
pass-along : (m : HintMap) (n i : ℕ) (p : Pass) → Along m p.map i → m.len ≤ n + i →
    Along m (pass_from n i p).map m.len
unfolding pass_from
pass-along m zero i p h l = along-ends m p.map i h (omega arith)
pass-along m (suc n) i p h l = go (ltb i p.map.len) refl (pass-along m n j next)
  where
    j : ℕ
    j = upper_of p.map i + 1

    next : Pass
    next = turn_of i (upper_of p.map i) p

    go : (b : Bool) → ltb i p.map.len ≡ b →
        (Along m next.map j → m.len ≤ n + j → Along m (pass_from n j next).map m.len) →
        Along m (cond b (pass_from n j next) p).map m.len
    go true e ih =
        let q = ltb-true i p.map.len e in
        ih (turn_along m i p h (omega (arith, h.len))) (omega (arith, (upper_is p.map i q).0))
    go false e ih = along-ends m p.map i h (omega (arith, ltb-false i p.map.len e, h.len))

module _ (m : HintMap) (g : Good m) where
  -- before the pass none is
  start-along : Along m m 0
  start-along =
      record {
        len = refl;
        fits = omega (arith, g.within, g.long);
        inside = omega arith;
        passed = λ k l. absurd (omega arith);
        ahead = λ k l. refl;
      }

  -- after it all are
  first-along : Along m (first_pass (start_of m)).map m.len
  unfolding first_pass
  first-along = pass-along m m.len 0 (start_of m) start-along (omega arith)

-- ---- in the words of the statement
-- an edge of a map
edge-at : (n : HintMap) (i : ℕ) → i < n.len → edge n i ≡ edge_at n i
edge-at n i l = get_or-take n.len n.edges i no_hint l

module _ (m n : HintMap) (h : Along m n m.len) where
  -- all edges but the last have the scales of their lines
  all_lines : (i : ℕ) → i + 1 < m.len → (edge n i).scale ≡ line_scale (edge m i).scale (edge n i) (edge n (i + 1))
  all_lines i l =
      rw (edge-at n i (omega (arith, h.len)), edge-at n (i + 1) (omega (arith, h.len)), edge-at m i (omega arith))
      (h.passed i l)

  -- the last keeps its scale
  last-stays : (i : ℕ) → i + 1 ≡ m.len → (edge n i).scale ≡ (edge m i).scale
  last-stays i l = rw (edge-at n i (omega (arith, h.len)), edge-at m i (omega arith)) (h.ahead i (omega arith))

  -- where all edges are put back, the scales are as they should be
  along-scaled : Scaled m n
  along-scaled =
      record {
        differ = λ i l d. all_lines i l ∙ line-differs (edge m i).scale (edge n i) (edge n (i + 1)) d;
        same = λ i l e. all_lines i l ∙ line_same (edge m i).scale (edge n i) (edge n (i + 1)) e;
        last = last-stays;
      }

-- the first pass sets the scales so
pub first-scaled : (m : HintMap) → Good m → Scaled m (first_pass (start_of m)).map
first-scaled m g = along-scaled m (first_pass (start_of m)).map (first-along m g)

-- ---- the second pass
-- the images of the first n are the first n images
map-take : {A B : Type 0} (f : A → B) (n : ℕ) (xs : List A) → map f (take n xs) ≡ take n (map f xs)
map-take f zero xs = refl
map-take f (suc n) [] = refl
map-take f (suc n) (x ∷ xs) = ap (λ (zs : List _). f x ∷ zs) (map-take f n xs)

-- the scale of an edge, in the list of all scales
edge-scale : (n : HintMap) (i : ℕ) → (edge n i).scale ≡ get_or (take n.len (scales n)) i ZERO
edge-scale n i = sym (get_or-map (λ (e : Hint). e.scale) (view n) i no_hint) ∙ rw map-take

-- the second pass keeps them
pub adjust-scaled : (m : HintMap) (i : ℕ) → (edge (adjust_of m) i).scale ≡ (edge (first_pass (start_of m)).map i).scale
adjust-scaled m i =
    let first = (first_pass (start_of m)).map in
    let l : (adjust_of m).len ≡ first.len = (adjust-kept m).len ∙ sym (first-kept (start_of m)).len in
    cc (edge-scale (adjust_of m) i, adjust-scales m, edge-scale first i)
