-- What may enter has room, and may enter as it is placed. Assumes nothing.
use mathlib.Core.Path.{◌≡◌, refl}
use mathlib.Core.Bool.{Bool, true, false, not, ◌&&◌}
use mathlib.Core.List.{List}
use Prim.Native.Nat.{ℕ, ◌+◌, ◌≤◌}
use native.Mathlib.Omega.{arith}
use lib.Dec.{ltb}
use lib.ListN.{length}
use borrow.Author.Tests.{ltb-true}
use Rattle.fixed.specs.declared.Fixed.{Fixed}
use Rattle.fixed.specs.Fixed.{less_f, at_most_f}
use Rattle.fixed.proofs.Order.{heights}
use Rattle.fixed.proofs.Tests.{both}
use Rattle.stems.specs.declared.edge.Hint.{Hint}
use Rattle.hintmap.specs.declared.map.HintMap.{HintMap}
use Rattle.hintmap.specs.declared.insert.Edges.{Edges}
use Rattle.hintmap.specs.declared.insert.Edges.TheVariants.{One, Two}
use Rattle.hintmap.specs.Map.{view}
use Rattle.hintmap.specs.Insert.{first_edge, edges_of, may_enter, again, placed_by, placed_for}

-- not below is at or above
pub not_less : (a b : Fixed) → at_most_f a b ≡ not (less_f b a)
not_less a b = go (less_f b a) refl
  where
    go : (t : Bool) → less_f b a ≡ t → at_most_f a b ≡ not t
    go true e = omega heights
    go false e = omega heights

-- there is room for all of it
pub enters-room : (n : ℕ) (e : Edges) → may_enter n e ≡ true → n + length (edges_of e) ≤ 96
unfolding may_enter
enters-room n (One e) h = omega (arith, ltb-true n 96 h)
enters-room n (Two b t) h =
    omega (arith, ltb-true n 95 (both (not (less_f t.cs_coord b.cs_coord)) (ltb n 95) h).1)

-- placed again or not, it may enter as before
again-enters : (n : ℕ) (b : Bool) (es : List Hint) (s₀ s : Fixed) (e : Edges) →
    may_enter n (placed_by b es s₀ s e) ≡ may_enter n e
unfolding may_enter again
again-enters n true es s₀ s (One e) = refl
again-enters n true es s₀ s (Two b t) = refl
again-enters n false es s₀ s e = refl

pub placed-enters : (m : HintMap) (e : Edges) (initial : HintMap) (given : Bool) →
    may_enter m.len (placed_for m e initial given) ≡ may_enter m.len e
placed-enters m e initial given =
    again-enters m.len (not (first_edge e).locked && given) (view initial) initial.scale m.scale e
