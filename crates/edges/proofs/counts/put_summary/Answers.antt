-- `put_summary` puts four counts one behind another. Assumes nothing.
use Rattle.std.proofs.Common.{ℕ, ◌+◌, ◌≤◌, false, List, ◌++◌, length, arith}
use Rattle.listing.specs.declared.summary.Summary.{Summary}
use Rattle.decimal.specs.Decimal.{Put}
use Rattle.decimal.proofs.Putting.{room-first, room-rest, put_both}
use Rattle.edges.specs.Page.{edges_text, pairs_text, ghosts_text, locked_text, end_text, summary_line}
use Rattle.edges.proofs.Parts.{part, from_locked, from_ghosts, from_pairs, summary-split}
use Rattle.edges.proofs.counts.put_summary.Goals as goal

-- the room of the line: each count leaves that of those behind it
module _ (s : Summary) (at : ℕ) (out : List ℕ) (h : at + length (summary_line s) ≤ length out) where
  room : at + length (part edges_text s.edges ++ from_pairs s) ≤ length out
  room = rw (summary-split s) at h

  module _ {e : ℕ} {oe : List ℕ} (pe : Put (part edges_text s.edges) at out e oe) where
    edges : e + length (from_pairs s) ≤ length oe
    edges = room-rest _ _ (part edges_text s.edges) (from_pairs s) room pe

    module _ {p : ℕ} {op : List ℕ} (pp : Put (part pairs_text s.pairs) e oe p op) where
      pairs : p + length (from_ghosts s) ≤ length op
      pairs = room-rest _ _ (part pairs_text s.pairs) (from_ghosts s) edges pp

      module _ {g : ℕ} {og : List ℕ} (pg : Put (part ghosts_text s.ghosts) p op g og) where
        ghosts : g + length (from_locked s) ≤ length og
        ghosts = room-rest _ _ (part ghosts_text s.ghosts) (from_locked s) pairs pg

pub put_count-edges-requires : goal.put_count-edges-requires
put_count-edges-requires c =
    let s = c.args.summary in
    (omega (arith, c.requires.0.0), room-first _ _ (part edges_text s.edges) (from_pairs s) (room s _ _ c.requires.1))

pub put_count-pairs-requires : goal.put_count-pairs-requires
put_count-pairs-requires c =
    let s = c.args.summary in (
      omega (arith, c.requires.0.1.0),
      room-first _ _ (part pairs_text s.pairs) (from_ghosts s) (edges s _ _ c.requires.1 c.put_count-edges.ensures),
    )

pub put_count-ghosts-requires : goal.put_count-ghosts-requires
put_count-ghosts-requires c =
    let s = c.args.summary in (
      omega (arith, c.requires.0.1.1.0),
      room-first _ _ (part ghosts_text s.ghosts) (from_locked s)
          (pairs s _ _ c.requires.1 c.put_count-edges.ensures c.put_count-pairs.ensures),
    )

pub put_count-locked-requires : goal.put_count-locked-requires
put_count-locked-requires c =
    let s = c.args.summary in (
      omega (arith, c.requires.0.1.1.1),
      room-first _ _ (part locked_text s.locked) (end_text false)
          (ghosts s _ _ c.requires.1 c.put_count-edges.ensures c.put_count-pairs.ensures c.put_count-ghosts.ensures),
    )

pub put_end-requires : goal.put_end-requires
put_end-requires c =
    let s = c.args.summary in
    room-rest _ _ (part locked_text s.locked) (end_text false)
    (ghosts s _ _ c.requires.1 c.put_count-edges.ensures c.put_count-pairs.ensures c.put_count-ghosts.ensures)
    c.put_count-locked.ensures

pub returns : goal.returns
returns c =
    let s = c.args.summary in
    rw (summary-split s)
    (put_both _ _ (part edges_text s.edges) (from_pairs s) (room s _ _ c.requires.1) c.put_count-edges.ensures
    (put_both _ _ (part pairs_text s.pairs) (from_ghosts s) (edges s _ _ c.requires.1 c.put_count-edges.ensures)
    c.put_count-pairs.ensures
    (put_both _ _ (part ghosts_text s.ghosts) (from_locked s)
    (pairs s _ _ c.requires.1 c.put_count-edges.ensures c.put_count-pairs.ensures) c.put_count-ghosts.ensures
    (put_both _ _ (part locked_text s.locked) (end_text false)
    (ghosts s _ _ c.requires.1 c.put_count-edges.ensures c.put_count-pairs.ensures c.put_count-ghosts.ensures)
    c.put_count-locked.ensures c.put_end.ensures))))
