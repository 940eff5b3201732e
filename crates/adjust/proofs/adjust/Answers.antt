-- `adjust` meets its contract: each turn of its loop is a turn of the first pass. Assumes nothing.
use Rattle.std.proofs.Common.{◌≡◌, Option, List, ℕ, ℤ, ◌+◌, ◌-◌, ◌<◌, ◌≤◌, refl, sym, ap, ◌∙◌, arith, rules}
use lib.Dec.{ltb}
use lib.ListN.{set, replicate, length-set}
use mir.Syntax.{w32}
use mir.Val.{SFits}
use mir.Facts.{to_z-of_z}
use Rattle.fixed.specs.Fixed.{ZERO}
use Rattle.fixed.specs.declared.Fixed.{Fixed}
use Rattle.stems.specs.declared.edge.Hint.{Hint}
use Rattle.stems.specs.Edge.{is_pair}
use Rattle.stems.specs.Lists.{hint_in, set_line}
use Rattle.hintmap.specs.declared.map.HintMap.{HintMap}
use Rattle.hintmap.specs.Lent.{map_in, Lent}
use Rattle.adjust.specs.declared.Aligned.{Aligned}
use Rattle.adjust.specs.Adjust.{edge_at, beside_by, settle_of, rescaled_hint, with_edge}
use Rattle.adjust.specs.Pass.{Notes, Pass, next_place, upper_by, upper_of, noted_of, turn_of, pass_from, first_pass}
use Rattle.adjust.specs.Second.{second_of}
use Rattle.adjust.specs.Adjusted.{notes_in}
use Rattle.adjust.proofs.Keeps.{still, line-still, settled-still}
use Rattle.adjust.proofs.Turns.{next-is, upper_by_lem, so_far, turn_is, pass_step, pass-ends}
use Rattle.adjust.proofs.InLists.{edge-is, Holds, holds, write, noted_in}
use Rattle.adjust.proofs.Notes.{adjusted-by}
use Rattle.adjust.proofs.adjust.Goals as goal

-- ---- the places of a turn
upper-at : {len i j : ℕ} (low : Hint) → i < len → j ≡ upper_by (is_pair low) len i → (i ≤ j) × (j < len)
upper-at {len} {i} low l e =
    let u = upper_by_lem len i (is_pair low) l in
    (omega arith, omega arith)

above-at : {len j n : ℕ} → j < len → n ≡ next_place len j → n < len
above-at {len} {j} l e = omega (arith, next-is len j l)

-- ---- what a turn reads and writes
record Turn (ls : List ℤ) (ts : List ℕ) (len i j b n : ℕ) (low high below above : Hint) (t : Aligned) (x y : Hint)
    (l l' l'' : List ℤ) : Type 0 where
  lent : Lent ls ts len
  inside : i < len
  low_read : low ≡ hint_in ls ts i
  upper : j ≡ upper_by (is_pair low) len i
  high_read : high ≡ hint_in ls ts j
  before : b ≡ i - 1
  below_read : below ≡ hint_in ls ts b
  next : n ≡ next_place len j
  above_read : above ≡ hint_in ls ts n
  settled : t ≡ settle_of (beside_by (ltb 0 i) below) low high (beside_by (ltb (j + 1) len) above)
  scaled_before : x ≡ rescaled_hint below t.low
  put_before : l ≡ set_line ls b x
  scaled_low : y ≡ rescaled_hint t.low t.high
  put_low : l' ≡ set_line l i y
  put_high : l'' ≡ set_line l' j t.high

module _ {ls : List ℤ} {ts : List ℕ} {len i j b n : ℕ} {low high below above : Hint} {t : Aligned} {x y : Hint}
    {l l' l'' : List ℤ} (r : Turn ls ts len i j b n low high below above t x y l l' l'') (s : Fixed)
  where
    abbrev m : HintMap
    m = map_in ls ts len s

    abbrev under : Option Hint
    under = beside_by (ltb 0 i) below

    abbrev over : Option Hint
    over = beside_by (ltb (j + 1) len) above

    -- the edges that are read, and the map that they are written into
    low-is : low ≡ edge_at m i
    low-is = edge-is ls ts len r.lent i r.inside s r.low_read

    high-is : high ≡ edge_at m j
    high-is = edge-is ls ts len r.lent j (upper-at low r.inside r.upper).1 s r.high_read

    b-inside : b < len
    b-inside = let e = r.before in let p = r.inside in omega arith

    below-is : below ≡ edge_at m b
    below-is = edge-is ls ts len r.lent b b-inside s r.below_read

    above-is : above ≡ edge_at m n
    above-is = edge-is ls ts len r.lent n (above-at (upper-at low r.inside r.upper).1 r.next) s r.above_read

    t-is : t ≡ settle_of under (edge_at m i) (edge_at m j) over
    t-is = rw (← low-is, ← high-is) r.settled

    x-is : x ≡ rescaled_hint (edge_at m b) t.low
    x-is = r.scaled_before ∙ ap (λ (e : Hint). rescaled_hint e t.low) below-is

    written : Holds m l'' ts len s (with_edge (with_edge (with_edge m b x) i y) j t.high)
    written =
        let z = settled-still t _ _ _ _ t-is in
        write (write (write (holds ls ts len s r.lent) b x r.put_before b-inside
        (ap still x-is ∙ line-still (edge_at m b) t.low)) i y r.put_low r.inside
        (ap still r.scaled_low ∙ line-still t.low t.high ∙ z.0)) j t.high r.put_high
        (upper-at low r.inside r.upper).1 z.1

    -- so it is a turn of the definition
    turned : (notes : Notes) → turn_of i j (so_far m notes) ≡ so_far (map_in l'' ts len s) (noted_of notes j t.note)
    unfolding map_in
    turned notes =
        turn_is m notes len i j b n under over t x y refl r.before r.next (ap (beside_by (ltb 0 i)) below-is)
        (ap (beside_by (ltb (j + 1) len)) above-is) t-is x-is r.scaled_low ∙
        ap (λ (k : HintMap). so_far k (noted_of notes j t.note)) (sym written.map)

    upper-is : upper_of m i ≡ j
    unfolding upper_of map_in
    upper-is = sym (r.upper ∙ ap (λ (e : Hint). upper_by (is_pair e) len i) low-is)

    -- and the pass goes on behind the hint, whatever the notes are by then
    passes : (start : Pass) (notes notes' : Notes) → start ≡ pass_from (len - i) i (so_far m notes) →
        noted_of notes j t.note ≡ notes' →
        start ≡ pass_from (len - (j + 1)) (j + 1) (so_far (map_in l'' ts len s) notes')
    unfolding map_in
    passes start notes notes' e o =
        e ∙ pass_step len i (so_far m notes) refl r.inside ∙
        ap (λ (k : ℕ). pass_from (len - (k + 1)) (k + 1) (turn_of i k (so_far m notes))) upper-is ∙
        ap (pass_from (len - (j + 1)) (j + 1)) (turned notes) ∙
        ap (λ (n : Notes). pass_from (len - (j + 1)) (j + 1) (so_far (map_in l'' ts len s) n)) o

-- the lists are lent on, and the pass goes on, whatever their scale
again : {ls : List ℤ} {ts : List ℕ} {len i j b n : ℕ} {low high below above : Hint} {t : Aligned} {x y : Hint}
    {l l' l'' : List ℤ} → Turn ls ts len i j b n low high below above t x y l l' l'' → (start : Fixed → Pass)
    (notes notes' : Notes) → ((s : Fixed) → start s ≡ pass_from (len - i) i (so_far (map_in ls ts len s) notes)) →
    noted_of notes j t.note ≡ notes' →
    Lent l'' ts len × ((s : Fixed) → start s ≡ pass_from (len - (j + 1)) (j + 1) (so_far (map_in l'' ts len s) notes'))
again r start notes notes' e o = ((written r ZERO).lent, λ s. passes r s (start s) notes notes' (e s) o)

pub loop-i-init : goal.loop-i-init
unfolding first_pass notes_in map_in
loop-i-init c =
    let z : c.args.len - 0 ≡ c.args.len = omega arith in
    (c.requires.0, (omega arith, (omega arith, (c.requires.1, λ s. rw z))))

pub edge_at-high-requires : goal.edge_at-high-requires
edge_at-high-requires c =
    omega (arith, c.requires.0.fits, upper-at c.edge_at-low.result (omega arith) c.upper-j.ensures)

pub next-n-requires : goal.next-n-requires
next-n-requires c = omega (arith, c.requires.0.fits, upper-at c.edge_at-low.result (omega arith) c.upper-j.ensures)

pub edge_at-above-requires : goal.edge_at-above-requires
edge_at-above-requires c =
    let u = upper-at c.edge_at-low.result (omega arith) c.upper-j.ensures in
    omega (arith, c.requires.0.fits, above-at u.1 c.next-n.ensures)

pub overflow_add-j : goal.overflow_add-j
overflow_add-j c = omega (arith, c.requires.0.fits, upper-at c.edge_at-low.result (omega arith) c.upper-j.ensures)

pub put_line-requires-in-loop-i-2 : goal.put_line-requires-in-loop-i-2
put_line-requires-in-loop-i-2 c =
    omega (arith, c.requires.0.fits, upper-at c.edge_at-low.result (omega arith) c.upper-j.ensures)

pub overflow_add-i : goal.overflow_add-i
overflow_add-i c = omega (arith, c.requires.0.fits, upper-at c.edge_at-low.result (omega arith) c.upper-j.ensures)

pub overflow_cast-at : goal.overflow_cast-at
overflow_cast-at c = omega (arith, c.requires.0.fits, upper-at c.edge_at-low.result (omega arith) c.upper-j.ensures)

pub loop-i-smaller-in-Some : goal.loop-i-smaller-in-Some
loop-i-smaller-in-Some c = omega (arith, upper-at c.edge_at-low.result (omega arith) c.upper-j.ensures)

pub loop-i-smaller : goal.loop-i-smaller
loop-i-smaller c = omega (arith, upper-at c.edge_at-low.result (omega arith) c.upper-j.ensures)

pub loop-i-preserved-in-Some : goal.loop-i-preserved-in-Some
loop-i-preserved-in-Some c =
    let a = c.args in
    let l = c.loop-i in
    let j = c.upper-j.result in
    let d = c.in-Some.missing in
    let f : SFits w32 d.bits = search rules in
    let u = upper-at c.edge_at-low.result (omega arith) c.upper-j.ensures in
    let noted = ap (noted_of (notes_in l.at l.by l.count) j) c.in-Some.is ∙ noted_in l.at l.by l.count j d ∙
    ap (λ (z : ℤ). notes_in (set l.at l.count j) (set l.by l.count z) (l.count + 1)) (sym (to_z-of_z f)) in
    let g = again
    (record {
      lent = l.invariant.0;
      inside = omega arith;
      low_read = c.edge_at-low.ensures;
      upper = c.upper-j.ensures;
      high_read = c.edge_at-high.ensures;
      before = c.previous-b.ensures;
      below_read = c.edge_at-below.ensures;
      next = c.next-n.ensures;
      above_read = c.edge_at-above.ensures;
      settled = rw (c.beside.ensures, c.beside-in-loop-i.ensures) at c.settle-note.ensures;
      scaled_before = c.rescaled.ensures;
      put_before = c.put_line.ensures;
      scaled_low = c.rescaled-in-loop-i.ensures;
      put_low = c.put_line-in-loop-i.ensures;
      put_high = c.put_line-in-loop-i-2.ensures;
    }) (λ s. first_pass (so_far (map_in a.lines.now a.tags.now a.len s) (notes_in (replicate 96 0) a.by.now 0)))
    (notes_in l.at l.by l.count) _ l.invariant.1.1.1.1 noted in
    (g.0, (omega arith, (omega arith, (length-set l.by l.count _ ∙ l.invariant.1.1.1.0, g.1))))

pub loop-i-preserved : goal.loop-i-preserved
unfolding noted_of
loop-i-preserved c =
    let a = c.args in
    let l = c.loop-i in
    let u = upper-at c.edge_at-low.result (omega arith) c.upper-j.ensures in
    let noted = ap (noted_of (notes_in l.at l.by l.count) c.upper-j.result) c.in_default.is in
    let g = again
    (record {
      lent = l.invariant.0;
      inside = omega arith;
      low_read = c.edge_at-low.ensures;
      upper = c.upper-j.ensures;
      high_read = c.edge_at-high.ensures;
      before = c.previous-b.ensures;
      below_read = c.edge_at-below.ensures;
      next = c.next-n.ensures;
      above_read = c.edge_at-above.ensures;
      settled = rw (c.beside.ensures, c.beside-in-loop-i.ensures) at c.settle-note.ensures;
      scaled_before = c.rescaled.ensures;
      put_before = c.put_line.ensures;
      scaled_low = c.rescaled-in-loop-i.ensures;
      put_low = c.put_line-in-loop-i.ensures;
      put_high = c.put_line-in-loop-i-2.ensures;
    }) (λ s. first_pass (so_far (map_in a.lines.now a.tags.now a.len s) (notes_in (replicate 96 0) a.by.now 0)))
    (notes_in l.at l.by l.count) _ l.invariant.1.1.1.1 noted in
    (g.0, (omega arith, (omega arith, (l.invariant.1.1.1.0, g.1))))

pub returns : goal.returns
unfolding notes_in map_in
returns c =
    let l = c.loop-i in
    record {
      lent = c.second_pass.ensures.lent;
      map = λ s. c.second_pass.ensures.map s ∙
          ap second_of (sym (l.invariant.1.1.1.1 s ∙ pass-ends _ l.i _ (omega (arith, c.loop-i-test.false)))) ∙
          adjusted-by _ c.args.by.now c.requires.1;
      long = l.invariant.1.1.1.0;
    }
