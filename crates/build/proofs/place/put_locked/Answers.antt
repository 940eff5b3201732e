-- `put_locked` meets its contract: what it leaves is the stem's turn in the first round. Assumes nothing.
use Rattle.std.proofs.Common.{sym}
use Rattle.build.proofs.Turns.{locked-leaves, locked-puts}
use Rattle.build.proofs.place.put_locked.Goals as goal

pub returns-then-not-captured : goal.returns-then-not-captured
returns-then-not-captured c =
    record {
      lent = c.requires.0;
      placed = λ initial given. rw (← c.stem_at-stem.ensures) (sym (locked-leaves _ initial _ _ _ _ given
          c.requires.1.active c.prepared-captured.ensures c.if-not-captured.true));
    }

pub returns : goal.returns
returns c =
    record {
      lent = c.insert_edges.ensures.lent;
      placed = λ initial given. rw (← c.stem_at-stem.ensures) (sym (locked-puts _ initial _ _ _ _ given
          c.requires.1.active c.shape.ensures c.prepared-captured.ensures c.if-not-captured.false c.choose.ensures
          (c.insert_edges.ensures.map _ initial) c.clear_active.ensures));
    }
