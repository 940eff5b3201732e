-- `put_free` meets its contract: what it leaves is the turn of an active stem in the second round.
-- Assumes nothing.
use Rattle.std.proofs.Common.{refl, sym}
use Rattle.hintmap.specs.Lent.{map_in}
use Rattle.build.proofs.Turns.{free-puts}
use Rattle.build.proofs.place.put_free.Goals as goal

pub returns : goal.returns
unfolding map_in
returns c =
    record {
      lent = c.insert_edges.ensures.lent;
      placed = λ st initial rest p q l a. rw (← c.stem_at-stem.ensures) (sym (free-puts st initial _ _ _ _ p q l refl a
          c.shape.ensures c.setup-bottom.ensures c.setup-top.ensures c.choose-edges.ensures c.placed.ensures
          (c.insert_edges.ensures.map _ initial)));
    }
