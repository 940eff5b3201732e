-- The edge that serves a height, in the words of the walk up: it is the one where that ends. Assumes
-- nothing.
use mathlib.Core.Path.{◌≡◌, refl}
use mathlib.Core.List.{List, [], ◌∷◌}
use Prim.Native.Nat.{ℕ, zero, suc, ◌≤◌, ◌<◌}
use native.Mathlib.Omega.{arith}
use lib.ListN.{length, take, drop, get_or, length-take}
use lib.Seq.{get_or-take}
use Rattle.fixed.specs.declared.Fixed.{Fixed}
use Rattle.fixed.specs.Fixed.{at_most_f}
use Rattle.stems.specs.declared.edge.Hint.{Hint}
use Rattle.stems.specs.Edge.{no_hint}
use Rattle.hintmap.specs.Map.{reach, last_of, serving, line_by, map_of}
use Rattle.hintmap.proofs.Near.{leading-within}

-- the walk goes past no more edges than there are
pub reach-within : (es : List Hint) (h : Fixed) → reach es h ≤ length es
reach-within es h = leading-within (λ (e : Hint). at_most_f e.cs_coord h) es

-- of an edge and the first n after it the last is at place n
pub last-take : (e : Hint) (es : List Hint) (n : ℕ) → n ≤ length es → last_of e (take n es) ≡ get_or (e ∷ es) n no_hint
unfolding last_of
last-take e es zero l = refl
last-take e [] (suc n) l = absurd (omega arith)
last-take e (x ∷ xs) (suc n) l = last-take x xs n (omega arith)

-- so the edge that serves is where the walk ends
pub serves-at : (e : Hint) (es : List Hint) (h : Fixed) → serving e es h ≡ get_or (e ∷ es) (reach es h) no_hint
serves-at e es h = last-take e es (reach es h) (reach-within es h)

-- the mapping by an array that has an edge
pub map-some : (es : List Hint) (n : ℕ) (s h : Fixed) → 0 < n → n ≤ length es →
    map_of (take n es) s h ≡ line_by (get_or es (reach (drop 1 (take n es)) h) no_hint) s h
unfolding map_of
map-some es zero s h p l = absurd (omega arith)
map-some [] (suc n) s h p l = absurd (omega arith)
map-some (e ∷ es) (suc n) s h p l =
    let k : reach (take n es) h < suc n = omega (arith, reach-within (take n es) h, length-take n es) in
    rw (serves-at e (take n es) h, get_or-take (suc n) (e ∷ es) (reach (take n es) h) no_hint k)
