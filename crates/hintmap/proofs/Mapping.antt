-- On a list in never-falling height the mapping goes by the last edge at or below, by the first
-- with the map's scale where all are above, and by the scale where there is none. Assumes nothing.
use mathlib.Core.Path.{◌≡◌, refl}
use mathlib.Core.Bool.{Bool, true, false}
use mathlib.Core.List.{List, [], ◌∷◌}
use Prim.Native.Nat.{ℕ, zero, suc, ◌≤◌, ◌<◌}
use native.Mathlib.Omega.{arith}
use lib.ListN.{length, get_or}
use lib.Signed.{◌<ℤ◌}
use Rattle.fixed.specs.declared.Fixed.{Fixed}
use Rattle.fixed.specs.Fixed.{mul_f, less_f, at_most_f}
use Rattle.fixed.proofs.Order.{heights}
use Rattle.stems.specs.declared.edge.Hint.{Hint}
use Rattle.hintmap.specs.declared.map.HintMap.{HintMap}
use Rattle.stems.specs.Edge.{no_hint}
use Rattle.hintmap.specs.Map.{view, reach, line, map_of}
use Rattle.hintmap.specs.WholeStems.{height, WholeStems, Ascends, Last, Above}
use Rattle.hintmap.proofs.Near.{leading-is}
use Rattle.hintmap.proofs.Walk.{serves-at}
use Rattle.hintmap.proofs.Words.{stems-ascend}

-- the edges after the first
pub tail-ascends : (e : Hint) (es : List Hint) → Ascends (e ∷ es) → Ascends es
tail-ascends e es s i j l k = s (suc i) (suc j) (omega arith) (omega arith)

-- nothing is passed where the next edge is above
reach-none : (es : List Hint) (h : Fixed) → (0 < length es → h.bits <ℤ (height (get_or es 0 no_hint)).bits) →
    reach es h ≡ 0
reach-none es h a =
    leading-is _ es 0 (omega arith) (λ i p. absurd (omega arith)) (λ p. let q = a p in omega heights)

-- the walk passes all edges up to the last at or below
reach-last : (e : Hint) (es : List Hint) (h : Fixed) (k : ℕ) → Ascends (e ∷ es) → Last (e ∷ es) h k → reach es h ≡ k
reach-last e es h k s l =
    let b = l.below in
    leading-is _ es k (omega (arith, l.there))
    (λ i p. let a = s (suc i) k (omega arith) l.there in omega heights)
    (λ p. let a = l.last (suc k) (omega arith) (omega arith) in omega heights)

map_last : (es : List Hint) (s h : Fixed) (k : ℕ) → Ascends es → Last es h k →
    map_of es s h ≡ line (get_or es k no_hint) (get_or es k no_hint).scale h
unfolding map_of
map_last [] s h k a l = absurd (omega (arith, l.there))
map_last (e ∷ es) s h k a l =
    let b = l.below in
    let t : less_f h (height (get_or (e ∷ es) k no_hint)) ≡ false = omega heights in
    rw (serves-at e es h, reach-last e es h k a l, t)

map_first : (es : List Hint) (s h : Fixed) → 0 < length es → Above es h → map_of es s h ≡ line (get_or es 0 no_hint) s h
unfolding map_of
map_first [] s h l a = absurd (omega arith)
map_first (e ∷ es) s h l a =
    let p : h.bits <ℤ (height e).bits = a 0 (omega arith) in
    let t : less_f h (height e) ≡ true = omega heights in
    rw (serves-at e es h, reach-none es h (λ p. a 1 (omega arith)), t)

map-none : (es : List Hint) (s h : Fixed) → length es ≡ 0 → map_of es s h ≡ mul_f h s
unfolding map_of
map-none [] s h l = refl
map-none (e ∷ es) s h l = absurd (omega arith)

-- what a height is mapped to, by the edges and the map's scale
pub record Mapped (es : List Hint) (s h : Fixed) : Type 0 where
  -- the last edge at or below the height serves, with its own scale
  pub last : (k : ℕ) → Last es h k → map_of es s h ≡ line (get_or es k no_hint) (get_or es k no_hint).scale h
  -- under all edges the first serves, with the map's scale
  pub first : 0 < length es → Above es h → map_of es s h ≡ line (get_or es 0 no_hint) s h
  -- with no edges it is height·scale
  pub none : length es ≡ 0 → map_of es s h ≡ mul_f h s

-- so every height is mapped, by a map of whole stems
pub mapped : (m : HintMap) (h : Fixed) → WholeStems (view m) → Mapped (view m) m.scale h
mapped m h r =
    record {
      last = λ k. map_last (view m) m.scale h k (stems-ascend r);
      first = map_first (view m) m.scale h;
      none = map-none (view m) m.scale h;
    }

-- of any list and height there is a last edge at or below, or all edges are above (as where there
-- are none)
pub data Serves (es : List Hint) (h : Fixed) : Type 0 where
  below : (k : ℕ) → Last es h k → Serves es h
  above : Above es h → Serves es h

module _ (e : Hint) (es : List Hint) (h : Fixed) where
  -- what holds past the first edge holds past it one place on
  later : (k : ℕ) → ((j : ℕ) → k ≤ j → j < length es → h.bits <ℤ (height (get_or es j no_hint)).bits) → (j : ℕ) →
      k < j →
      j < length (e ∷ es) → h.bits <ℤ (height (get_or (e ∷ es) j no_hint)).bits
  later k a zero p r = absurd (omega arith)
  later k a (suc j) p r = a j (omega arith) (omega arith)

  serves_by : (t : Bool) → at_most_f (height e) h ≡ t → Serves es h → Serves (e ∷ es) h
  serves_by t q (below k l) =
      below (suc k) (record {
        there = omega (arith, l.there);
        below = l.below;
        last = later (suc k) (λ j p r. l.last j p r);
      })
  serves_by true q (above a) =
      below 0 (record { there = omega arith; below = omega heights; last = later 0 (λ j p r. a j r) })
  serves_by false q (above a) = above all
    where
      all : (j : ℕ) → j < length (e ∷ es) → h.bits <ℤ (height (get_or (e ∷ es) j no_hint)).bits
      all zero r = omega heights
      all (suc j) r = a j (omega arith)

pub serves : (es : List Hint) (h : Fixed) → Serves es h
serves [] h = above none_above
  where
    none_above : (j : ℕ) → j < 0 → h.bits <ℤ (height (get_or {A = Hint} [] j no_hint)).bits
    none_above j l = absurd (omega arith)
serves (e ∷ es) h = serves_by e es h (at_most_f (height e) h) refl (serves es h)
