-- An insertion into a map's lists: what enters and what is dropped, in the words of the map. Assumes
-- nothing.
use mathlib.Core.Path.{◌≡◌, sym, ap, subst, ◌∙◌}
use mathlib.Core.Bool.{false, true}
use mathlib.Core.List.{List}
use Prim.Native.Nat.{ℕ, ◌≤◌}
use native.Mathlib.Omega.{arith}
use lib.IntN.{ℤ}
use Rattle.fixed.specs.declared.Fixed.{Fixed}
use Rattle.fixed.specs.Fixed.{ZERO}
use Rattle.stems.specs.Lists.{held}
use Rattle.hintmap.specs.declared.map.HintMap.{HintMap}
use Rattle.hintmap.specs.declared.insert.Edges.{Edges}
use Rattle.std.proofs.Common.{Option, Some, None}
use Rattle.hintmap.specs.Map.{view}
use Rattle.hintmap.specs.Insert.{edges_of, may_enter, insert_by, insert_in}
use Rattle.hintmap.specs.WholeStems.{Ascends}
use Rattle.hintmap.specs.Lent.{map_in, Lent, Comes, Entered, Inserted}
use Rattle.hintmap.proofs.Enter.{enters-room}
use Rattle.hintmap.proofs.Outcome.{Fits, outcome_fits}
use Rattle.hintmap.proofs.Order.{insert-ascends}
use Rattle.hintmap.proofs.Lent.{view-map, map-long, ascends, rises, put_map}

module _ (ls : List ℤ) (ts : List ℕ) (n : ℕ) (l : Lent ls ts n) (e : Edges) where
  abbrev m : Fixed → HintMap
  m s = map_in ls ts n s

  -- what enters has its place and room
  pub entered-fits : {at : ℕ} {p : Edges} → Comes ls ts n e (Some (at, p)) → (at ≤ n) × (may_enter n p ≡ true)
  unfolding map_in
  entered-fits c = subst (Fits (m ZERO)) (sym (c ZERO (m ZERO))) (outcome_fits (m ZERO) e (m ZERO) false)

  -- what came of it in the map
  came : {o : Option (ℕ × Edges)} → Comes ls ts n e o → (s : Fixed) (initial : HintMap) →
      insert_by o (m s) ≡ insert_in (m s) e initial false
  unfolding insert_in
  came c s initial = ap (λ (o : Option (ℕ × Edges)). insert_by o (m s)) (c s initial)

  -- the order of edges is kept
  in_order : (n' : ℕ) (ls' : List ℤ) (ts' : List ℕ) → n' ≤ 96 →
      map_in ls' ts' n' ZERO ≡ insert_in (m ZERO) e (m ZERO) false → Ascends (held ls' ts' n')
  in_order n' ls' ts' k q =
      subst Ascends (sym (ap view q) ∙ view-map ls' ts' n' k ZERO)
      (insert-ascends (m ZERO) e (m ZERO) (map-long ls ts n l.fits ZERO)
      (subst Ascends (sym (view-map ls ts n l.fits ZERO)) (ascends ls ts n l.fits l.order)))

  pub dropped-is : Comes ls ts n e None → Inserted ls ts n e n ls ts
  dropped-is c = record { lent = l; map = λ s initial. came c s initial }

  pub entered-is : {at : ℕ} {p : Edges} (n' : ℕ) (ls' : List ℤ) (ts' : List ℕ) → Comes ls ts n e (Some (at, p)) →
      Entered ls ts n at (edges_of p) n' ls' ts' → Inserted ls ts n e n' ls' ts'
  entered-is {at} {p} n' ls' ts' c q =
      let room = enters-room n p (entered-fits c).1 in
      let k : n' ≤ 96 = omega (arith, q.longer, room) in
      let map : (s : Fixed) (initial : HintMap) → map_in ls' ts' n' s ≡ insert_in (m s) e initial false =
      λ s initial. put_map ls ts n l.fits s at p n' ls' ts' room q ∙ came c s initial in
      record {
        lent = record {
          whole = q.whole;
          fits = k;
          order = rises ls' ts' n' k (in_order n' ls' ts' k (map ZERO (m ZERO)));
        };
        map = map;
      }
