-- `put` meets its contract: the edges that are put in fill the gap that the loop opens. Assumes nothing.
use Rattle.std.proofs.Common.{◌≡◌, true, List, ℕ, ℤ, length, ◌+◌, ◌-◌, ◌<◌, ◌≤◌, sym, ap, ◌∙◌, add-one, arith}
use lib.Seq.{sets}
use Rattle.stems.specs.declared.edge.Hint.{Hint}
use Rattle.stems.specs.Edge.{no_hint}
use Rattle.stems.specs.Lists.{edges_in, Whole}
use Rattle.stems.proofs.Places.{edges-long, put_is, put_whole, copied_is, copied-whole}
use Rattle.hintmap.specs.declared.insert.Edges.{Edges}
use Rattle.hintmap.specs.Insert.{edges_of, may_enter}
use Rattle.hintmap.specs.Lent.{Entered}
use Rattle.hintmap.proofs.Laws.{shifted, shifted_none, shifted-step-at, gap-filled}
use Rattle.hintmap.proofs.Enter.{enters-room}
use Rattle.hintmap.proofs.insert.put.Goals as goal
use Rattle.hintmap.proofs.insert.put.Goals.{in-One, in-Two}

-- edges put where the places are open have entered
filled : {ls ls' : List ℤ} {ts ts' : List ℕ} {es : List Hint} {len at n k : ℕ} {e new : Edges} → at ≤ len →
    may_enter len e ≡ true → n ≡ length (edges_of e) → k ≡ at → es ≡ shifted (edges_in ls ts) len n k →
    e ≡ new → Whole ls' ts' → edges_in ls' ts' ≡ sets es at (edges_of new) →
    Entered ls ts len at (edges_of e) (len + n) ls' ts'
filled {ls} {ls'} {ts} {ts'} {es} {len} {at} {n} {k} {e} l may q z o p w r =
    record {
      whole = w;
      longer = ap (λ (k : ℕ). len + k) q;
      edges =
          rw (r, sym p, o, z)
          (gap-filled (edges_in ls ts) len at n (edges_of e) l
          (omega (arith, edges-long ls ts, enters-room len e may)) q);
    }

pub loop-k-init : goal.loop-k-init
loop-k-init c =
    let a = c.args in
    let es = edges_in a.lines.now a.tags.now in (
      omega arith,
      (
        c.requires.0,
        sym (shifted_none es a.len c.count-n.result (omega (
          arith,
          c.count-n.ensures,
          edges-long a.lines.now a.tags.now,
          enters-room a.len a.e c.requires.1.1,
        ))),
      ),
    )

pub overflow_add-k : goal.overflow_add-k
overflow_add-k c = omega (arith, c.count-n.ensures, enters-room c.args.len c.args.e c.requires.1.1)

pub copy_edge-requires : goal.copy_edge-requires
copy_edge-requires c =
    let f = enters-room c.args.len c.args.e c.requires.1.1 in
    (omega (arith, c.count-n.ensures, f), omega (arith, c.count-n.ensures, f))

pub loop-k-preserved : goal.loop-k-preserved
loop-k-preserved c =
    let a = c.args in
    let k = c.loop-k.k in
    let n = c.count-n.result in
    let v = c.loop-k.invariant in
    let f = enters-room a.len a.e c.requires.1.1 in
    let few : a.len + n ≤ 96 = omega (arith, c.count-n.ensures, f) in
    let m = c.copy_edge.ensures in
    let i : k - 1 < 96 = omega arith in
    let j : k - 1 + n < 96 = omega arith in (
      omega arith,
      (
        copied-whole _ _ v.1.0 _ _ i j m,
        copied_is _ _ v.1.0 _ _ i j m ∙ rw v.1.1
            (shifted-step-at (edges_in a.lines.now a.tags.now) a.len n k no_hint (omega arith) (omega arith)
            (omega (arith, few, edges-long a.lines.now a.tags.now))),
      ),
    )

pub overflow_add-result : goal.overflow_add-result
overflow_add-result c = omega (arith, c.count-n.ensures, enters-room c.args.len c.args.e c.requires.1.1)

-- there is room for as many as the case has
near : {len at : ℕ} {e new : Edges} → at ≤ len → may_enter len e ≡ true → e ≡ new → at + length (edges_of new) ≤ 96
near {len} {at} {e} l may p =
    omega (arith, enters-room len e may, ap (λ (e : Edges). length (edges_of e)) p)

pub put_edge-requires : goal.put_edge-requires
put_edge-requires c = omega (arith, near c.requires.1.0 c.requires.1.1 c.in-One.is)

pub put_edge-requires-in-Two : goal.put_edge-requires-in-Two
put_edge-requires-in-Two c = omega (arith, near c.requires.1.0 c.requires.1.1 c.in-Two.is)

pub overflow_add-at : goal.overflow_add-at
overflow_add-at c = omega (arith, near c.requires.1.0 c.requires.1.1 c.in-Two.is)

pub put_edge-requires-in-Two-2 : goal.put_edge-requires-in-Two-2
put_edge-requires-in-Two-2 c = omega (arith, near c.requires.1.0 c.requires.1.1 c.in-Two.is)

pub returns : goal.returns
returns c =
    let q = c.requires.1 in
    let v = c.loop-k.invariant in
    elim c.match-e.branch [
      | in-One w ↦
          let p = w.in-One.is in
          let i : c.args.at < 96 = omega (arith, near q.0 q.1 p) in
          let m = w.put_edge.ensures in
          rw (w.lines-is, w.tags-is)
          (filled q.0 q.1 c.count-n.ensures (omega arith) v.1.1 p (put_whole _ _ v.1.0 _ i _ m)
          (put_is _ _ v.1.0 _ i _ m))
      | in-Two w ↦
          let p = w.in-Two.is in
          let o = near q.0 q.1 p in
          let i : c.args.at < 96 = omega (arith, o) in
          let j : c.args.at + 1 < 96 = omega (arith, o) in
          let m = w.put_edge-in-Two.ensures in
          let m' = w.put_edge-in-Two-2.ensures in
          let l = put_whole _ _ v.1.0 _ i _ m in
          rw (w.lines-is, w.tags-is)
          (filled q.0 q.1 c.count-n.ensures (omega arith) v.1.1 p (put_whole _ _ l _ j _ m')
          (put_is _ _ l _ j _ m' ∙ rw (put_is _ _ v.1.0 _ i _ m, add-one c.args.at)))
    ]
