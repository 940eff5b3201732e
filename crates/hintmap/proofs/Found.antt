-- What a walk or a count over a map's lines has found, whatever the tags: where the heights that pass
-- end, and the mapping by the edge there. Assumes nothing.
use mathlib.Core.Path.{◌≡◌, sym, ap, ◌∙◌}
use mathlib.Core.Bool.{Bool, true, false, cond, true≢false}
use mathlib.Core.List.{List}
use Prim.Native.Nat.{ℕ, ◌+◌, ◌-◌, ◌≤◌, ◌<◌}
use native.Mathlib.Omega.{arith}
use lib.IntN.{ℤ}
use lib.ListN.{drop, get_or, length-drop}
use lib.Seq.{get_or-drop}
use Rattle.fixed.specs.declared.Fixed.{Fixed}
use Rattle.fixed.specs.Fixed.{add_f, sub_f, mul_f, less_f, at_most_f}
use Rattle.fixed.proofs.Order.{heights}
use Rattle.stems.specs.declared.edge.Hint.{Hint}
use Rattle.stems.specs.Edge.{no_hint}
use Rattle.stems.specs.Lists.{height_in, device_in, scale_in, edges_in, held}
use Rattle.stems.proofs.Places.{edges-long, height-of, device-of, scale_of}
use Rattle.hintmap.specs.Map.{line, line_by, map_of}
use Rattle.hintmap.specs.Lent.{Rises, Rising, Reaches, Places}
use Rattle.hintmap.proofs.Near.{leading-is}
use Rattle.hintmap.proofs.Walk.{map-some}
use Rattle.hintmap.proofs.Lent.{held-length, held-height}

-- nothing is asked of heights that are not known to rise
pub unknown : (ls : List ℤ) (n : ℕ) → Rising false ls n
unknown ls n e = absurd (true≢false (sym e))

-- an edge after the first
behind-first : (es : List Hint) (i : ℕ) → get_or (drop 1 es) i no_hint ≡ get_or es (i + 1) no_hint
behind-first es i =
    let e : 1 + i ≡ i + 1 = omega arith in
    get_or-drop 1 es i no_hint ∙ ap (λ (k : ℕ). get_or es k no_hint) e

module _ (ls : List ℤ) (n : ℕ) (h : Fixed) (fits : n ≤ 96) where
  -- upward past the edges behind the first that are at or below the height
  pub reaches : (i : ℕ) → i < n → ((j : ℕ) → j < i → at_most_f (height_in ls (j + 1)) h ≡ true) →
      (i + 1 < n → at_most_f (height_in ls (i + 1)) h ≡ false) → Reaches ls n h i
  reaches i l p q ts =
      let f : Hint → Bool = λ e. at_most_f e.cs_coord h in
      let es = held ls ts n in
      let k = length-drop 1 es in
      let m = held-length ls ts n fits in
      let at : (j : ℕ) → j + 1 < n → f (get_or (drop 1 es) j no_hint) ≡ at_most_f (height_in ls (j + 1)) h =
      λ j o. ap f (behind-first es j) ∙ ap (λ (x : Fixed). at_most_f x h) (held-height ls ts n fits (j + 1) o) in
      sym (leading-is f (drop 1 es) i (omega (arith, k, m)) (λ j o. at j (omega arith) ∙ p j o)
      (λ o. let g : i + 1 < n = omega (arith, k, m) in at i g ∙ q g))

  -- downward past the edges that are not under it
  pub places : (at : ℕ) → at ≤ n → Rises ls n → (0 < at → less_f (height_in ls (at - 1)) h ≡ true) →
      (at < n → less_f (height_in ls at) h ≡ false) → Places ls n h at
  places at l r p q ts =
      let f : Hint → Bool = λ e. less_f e.cs_coord h in
      let es = held ls ts n in
      let m = held-length ls ts n fits in
      let asks : (j : ℕ) → j < n → f (get_or es j no_hint) ≡ less_f (height_in ls j) h =
      λ j o. ap (λ (x : Fixed). less_f x h) (held-height ls ts n fits j o) in
      sym (leading-is f es at (omega (arith, m)) (λ j o. asks j (omega arith) ∙ under j o)
      (λ o. let g : at < n = omega (arith, m) in asks at g ∙ q g))
    where
      under : (j : ℕ) → j < at → less_f (height_in ls j) h ≡ true
      under j o =
          let a = r j (at - 1) (omega arith) (omega arith) in
          let b = p (omega arith) in
          omega heights

-- the edge where the walk up ends serves, by the map's scale where it is above the height
pub served : (ls : List ℤ) (ts : List ℕ) (n : ℕ) (s h : Fixed) (r : ℕ) (b : Bool) → n ≤ 96 → r < n → Reaches ls n h r →
    b ≡ less_f h (height_in ls r) →
    map_of (held ls ts n) s h ≡ add_f (mul_f (sub_f h (height_in ls r)) (cond b s (scale_in ls r))) (device_in ls r)
unfolding line
served ls ts n s h r b fits l e t =
    let p : r < 96 = omega arith in
    map-some (edges_in ls ts) n s h (omega arith) (omega (arith, edges-long ls ts)) ∙
    ap (λ (k : ℕ). line_by (get_or (edges_in ls ts) k no_hint) s h) (sym (e ts)) ∙
    rw (height-of ls ts r p, device-of ls ts r p, scale_of ls ts r p, t)
