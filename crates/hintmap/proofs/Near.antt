-- What stands beside a place of a list of edges, and how many edges lead it. Assumes nothing.
use mathlib.Core.Path.{◌≡◌, refl, ap}
use mathlib.Core.Bool.{Bool, true, false, not}
use mathlib.Core.List.{List, [], ◌∷◌}
use Prim.Native.Nat.{ℕ, zero, suc, ◌-◌, ◌≤◌, ◌<◌, zero-le, suc-le-suc}
use native.Mathlib.Omega.{arith}
use lib.ListN.{length, get_or, length-take}
use Rattle.fixed.specs.declared.Fixed.{Fixed}
use Rattle.fixed.specs.Fixed.{less_f}
use Rattle.stems.specs.declared.edge.Hint.{Hint}
use Rattle.hintmap.specs.declared.map.HintMap.{HintMap}
use Rattle.stems.specs.Edge.{no_hint}
use Rattle.hintmap.specs.Map.{view, leading, place_among, count_by, clear_behind}
use Rattle.hintmap.specs.contracts.map.HintMap.{the_type}

-- the array of a map is whole, as a function knows it of an argument
abbrev pub Held : HintMap → Type 0
Held m = length (the_type.to m).0 ≡ 96

pub held-long : (m : HintMap) → Held m → length m.edges ≡ 96
held-long m g = g

-- the test of the edge before a place, or of none
module _ (f : Hint → Bool) (es : List Hint) where
  pub behind-at : (at : ℕ) → 0 < at → clear_behind f es at ≡ not (f (get_or es (at - 1) no_hint))
  unfolding clear_behind
  behind-at zero p = absurd (omega arith)
  behind-at (suc at) p =
      let k : suc at - 1 ≡ at = omega arith in
      rw k

  pub behind-none : (at : ℕ) → at ≤ 0 → clear_behind f es at ≡ true
  unfolding clear_behind
  behind-none zero l = refl
  behind-none (suc at) l = absurd (omega arith)

-- k edges lead where each of them passes the test, and the next, if there is one, does not
pub leading-is : (f : Hint → Bool) (es : List Hint) (k : ℕ) → k ≤ length es →
    ((i : ℕ) → i < k → f (get_or es i no_hint) ≡ true) →
    (k < length es → f (get_or es k no_hint) ≡ false) → leading f es ≡ k
unfolding leading
leading-is f [] zero l p q = refl
leading-is f [] (suc k) l p q = absurd (omega arith)
leading-is f (e ∷ es) zero l p q = rw (q (omega arith))
leading-is f (e ∷ es) (suc k) l p q =
    rw (p 0 (omega arith))
    (ap suc (leading-is f es k (omega arith) (λ i h. p (suc i) (omega arith)) (λ h. q (omega arith))))

-- as many as there are lead at most
one_more : (b : Bool) {k n : ℕ} → k ≤ n → count_by b k ≤ suc n
one_more true h = suc-le-suc h
one_more false h = zero-le

pub leading-within : (f : Hint → Bool) (es : List Hint) → leading f es ≤ length es
unfolding leading
leading-within f [] = zero-le
leading-within f (e ∷ es) = one_more (f e) (leading-within f es)

-- a place is no higher than the end
pub place-below : (m : HintMap) (h : Fixed) → place_among (view m) h ≤ m.len
place-below m h =
    omega (arith, leading-within (λ (e : Hint). less_f e.cs_coord h) (view m), length-take m.len m.edges)
