-- The edges of a map after a put are those of the list, and its array stays whole. Assumes nothing.
use mathlib.Core.Path.{◌≡◌, ◌∙◌}
use mathlib.Core.Bool.{true}
use mathlib.Core.List.{List}
use Prim.Native.Nat.{ℕ, ◌+◌, ◌≤◌}
use native.Mathlib.Omega.{arith}
use lib.ListN.{length, drop, length-append, length-take, length-drop}
use lib.Seq.{take_at}
use Rattle.stems.specs.declared.edge.Hint.{Hint}
use Rattle.hintmap.specs.declared.map.HintMap.{HintMap}
use Rattle.hintmap.specs.declared.insert.Edges.{Edges}
use Rattle.hintmap.specs.Map.{view, put_at}
use Rattle.hintmap.specs.Insert.{edges_of, may_enter, put_edges}
use Rattle.hintmap.proofs.Enter.{enters-room}

-- the edges put at a place of a list
abbrev pub put : List Hint → ℕ → Edges → List Hint
put es at e = put_at es at (edges_of e)

module _ (m : HintMap) (at : ℕ) (l : at ≤ m.len) (r : length m.edges ≡ 96) (e : Edges)
    (f : may_enter m.len e ≡ true) where
  room : m.len + length (edges_of e) ≤ 96
  room = enters-room m.len e f

  grown : length (put (view m) at e) ≡ m.len + length (edges_of e)
  grown = simp (length-append, length-take, length-drop) (omega (arith, room))

  -- what may enter is put as in the list
  pub view-edges : view (put_edges m at e) ≡ put (view m) at e
  unfolding put_edges
  view-edges =
      take_at (put (view m) at e) (drop (m.len + length (edges_of e)) m.edges) (m.len + length (edges_of e)) grown

  -- and its map has no more than 96
  pub put-sized : ((put_edges m at e).len ≤ 96) × (length (put_edges m at e).edges ≡ 96)
  unfolding put_edges
  put-sized = (
    room,
    length-append (put (view m) at e) (drop (m.len + length (edges_of e)) m.edges) ∙
        rw (grown, length-drop) (omega (arith, room)),
  )
