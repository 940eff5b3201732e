-- `second_pass` meets its contract: each turn tries the newest note that is left. Assumes nothing.
use Rattle.std.proofs.Common.{◌≡◌, Option, Bool, true, false, List, ℕ, ℤ, ◌+◌, ◌-◌, ◌<◌, sym, ap, ◌∙◌, arith, rules}
use lib.Dec.{ltb}
use lib.IntN.{pos}
use lib.ListN.{get_or}
use mir.Syntax.{w32}
use mir.Val.{SFits, to_z, of_z}
use mir.Facts.{to_z-of_z}
use Rattle.fixed.specs.Fixed.{from_bits, ZERO}
use Rattle.fixed.specs.declared.Fixed.{Fixed}
use Rattle.stems.specs.declared.edge.Hint.{Hint}
use Rattle.stems.specs.Edge.{is_pair}
use Rattle.stems.specs.Lists.{hint_in, set_line}
use Rattle.hintmap.specs.declared.map.HintMap.{HintMap}
use Rattle.hintmap.specs.Lent.{map_in, Lent}
use Rattle.hintmap.proofs.Lent.{map-len}
use Rattle.adjust.specs.Adjust.{edge_at, beside_by, room_up, moved_hint}
use Rattle.adjust.specs.Pass.{next_place, lower_by}
use Rattle.adjust.specs.Second.{retry_of, second_pass}
use Rattle.adjust.specs.Adjusted.{notes_in}
use Rattle.adjust.proofs.Keeps.{still, moved-still}
use Rattle.adjust.proofs.Turns.{next-is}
use Rattle.adjust.proofs.Second.{second-step, second-ends, retry-none, retry-stays, retry-moves, lower-is}
use Rattle.adjust.proofs.InLists.{edge-is, Holds, holds, write, move-is, place_is}
use Rattle.adjust.proofs.second_pass.Goals as goal

-- a turn tries the note that it reads, and leaves those before it
again : (at : List ℕ) (by : List ℤ) (count k : ℕ) (m : HintMap) {a m' : HintMap} → 0 < k →
    SFits w32 (get_or by (k - 1) (pos 0)) →
    a ≡ second_pass k (notes_in at by count) m →
    retry_of m (get_or at (k - 1) 0) (from_bits (to_z w32 (of_z w32 (get_or by (k - 1) (pos 0))))) ≡ m' →
    a ≡ second_pass (k - 1) (notes_in at by count) m'
again at by count k m l f e t =
    let move = move-is at by count (k - 1) ∙ ap from_bits (sym (to_z-of_z f)) in
    e ∙ second-step k (notes_in at by count) m l ∙
    ap (second_pass (k - 1) (notes_in at by count)) (rw (place_is at by count (k - 1), move) t)

-- the next place is of an edge of the map, and so is that of the lower edge
next-at : {len j n : ℕ} → j < len → n ≡ next_place len j → n < len
next-at {len} {j} l e = omega (arith, next-is len j l)

lower-at : {len j i : ℕ} (high : Hint) → j < len → i ≡ lower_by (is_pair high) j → i < len
lower-at {len} {j} high l e = omega (arith, lower-is (is_pair high) j)

-- the edges that are read for a note of an edge of the map, and whether there is room
record Read (ls : List ℤ) (ts : List ℕ) (len j n : ℕ) (by : Fixed) (high above : Hint) (r : Bool) : Type 0 where
  lent : Lent ls ts len
  inside : j < len
  edge : high ≡ hint_in ls ts j
  next : n ≡ next_place len j
  beside : above ≡ hint_in ls ts n
  room : r ≡ room_up (beside_by (ltb (j + 1) len) above) high.ds_coord by

module _ {ls : List ℤ} {ts : List ℕ} {len j n : ℕ} {by : Fixed} {high above : Hint} {r : Bool}
    (t : Read ls ts len j n by high above r) (s : Fixed)
  where
    abbrev m : HintMap
    m = map_in ls ts len s

    abbrev near : Option Hint
    near = beside_by (ltb (j + 1) len) above

    high-is : high ≡ edge_at m j
    high-is = edge-is ls ts len t.lent j t.inside s t.edge

    near-is : near ≡ beside_by (ltb (j + 1) len) (edge_at m n)
    near-is = ap (beside_by (ltb (j + 1) len)) (edge-is ls ts len t.lent n (next-at t.inside t.next) s t.beside)

    room-is : r ≡ room_up near (edge_at m j).ds_coord by
    room-is = t.room ∙ ap (λ (x : Hint). room_up near x.ds_coord by) high-is

    -- without room the hint stays
    stays : r ≡ false → retry_of m j by ≡ m
    stays = retry-stays m len j n by near r (map-len ls ts len t.lent.fits s) t.inside t.next near-is room-is

    -- with room both its edges are written where they are moved
    moves : {i : ℕ} {low x y : Hint} {l l' : List ℤ} → r ≡ true → i ≡ lower_by (is_pair high) j →
        low ≡ hint_in ls ts i → x ≡ moved_hint low by → l ≡ set_line ls i x → y ≡ moved_hint high by →
        l' ≡ set_line l j y → Holds m l' ts len s (retry_of m j by)
    moves {i} {low} {x} {y} e ei el ex ex' ey ey' =
        let at : i < len = lower-at high t.inside ei in
        let pair = ei ∙ ap (λ (e : Hint). lower_by (is_pair e) j) high-is in
        let low-is : x ≡ moved_hint (edge_at m i) by =
        ex ∙ ap (λ (e : Hint). moved_hint e by) (edge-is ls ts len t.lent i at s el) in
        let up-is : y ≡ moved_hint (edge_at m j) by = ey ∙ ap (λ (e : Hint). moved_hint e by) high-is in
        rw (retry-moves m len j n by near r (map-len ls ts len t.lent.fits s) t.inside t.next near-is room-is i x y e
        pair low-is up-is)
        (write (write (holds ls ts len s t.lent) i x ex' at (ap still low-is ∙ moved-still (edge_at m i) by)) j y ey'
        t.inside (ap still up-is ∙ moved-still (edge_at m j) by))

-- a note past the map changes nothing
pub loop-k-preserved-then-len-j : goal.loop-k-preserved-then-len-j
loop-k-preserved-then-len-j c =
    let a = c.args in
    let k = c.loop-k.k in
    let f : SFits w32 (get_or a.by.now (k - 1) (pos 0)) = search rules in
    let w = c.loop-k.invariant.0 in (
      w,
      λ s. let m = map_in c.loop-k.lines a.tags.now a.len s in
          let l = map-len c.loop-k.lines a.tags.now a.len w.fits s in
          again a.at.now a.by.now a.count k _ (omega arith) f (c.loop-k.invariant.1 s)
          (retry-none m _ _ (omega (arith, l))),
    )

pub edge_at-above-requires : goal.edge_at-above-requires
edge_at-above-requires c = omega (arith, c.requires.0.fits, next-at (omega arith) c.next-n.ensures)

pub loop-k-preserved-then-not-room_up : goal.loop-k-preserved-then-not-room_up
loop-k-preserved-then-not-room_up c =
    let a = c.args in
    let k = c.loop-k.k in
    let f : SFits w32 (get_or a.by.now (k - 1) (pos 0)) = search rules in (
      c.loop-k.invariant.0,
      λ s. again a.at.now a.by.now a.count k _ (omega arith) f (c.loop-k.invariant.1 s)
          (stays
          (record {
            lent = c.loop-k.invariant.0;
            inside = omega arith;
            edge = c.edge_at-high.ensures;
            next = c.next-n.ensures;
            beside = c.edge_at-above.ensures;
            room = rw c.beside.ensures at c.room_up.ensures;
          }) s c.if-not-room_up.true),
    )

pub loop-k-preserved : goal.loop-k-preserved
loop-k-preserved c =
    let a = c.args in
    let k = c.loop-k.k in
    let f : SFits w32 (get_or a.by.now (k - 1) (pos 0)) = search rules in
    let written = λ (s : Fixed). moves
    (record {
      lent = c.loop-k.invariant.0;
      inside = omega arith;
      edge = c.edge_at-high.ensures;
      next = c.next-n.ensures;
      beside = c.edge_at-above.ensures;
      room = rw c.beside.ensures at c.room_up.ensures;
    }) s c.if-not-room_up.false c.lower-i.ensures c.edge_at-low.ensures c.moved.ensures c.put_line.ensures
    c.moved-in-loop-k.ensures c.put_line-in-loop-k.ensures in (
      (written ZERO).lent,
      λ s. again a.at.now a.by.now a.count k _ (omega arith) f (c.loop-k.invariant.1 s) (sym (written s).map),
    )

pub returns : goal.returns
returns c =
    let at = c.loop-k in
    record {
      lent = at.invariant.0;
      map = λ s. sym (at.invariant.1 s ∙ second-ends at.k _ (map_in at.lines _ _ s) (omega arith));
    }
