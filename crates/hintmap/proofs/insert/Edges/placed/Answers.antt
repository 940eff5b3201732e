-- `Edges::placed` meets its contract, by the lock of the first edge. Assumes nothing.
use Rattle.std.proofs.Common.{◌≡◌, false, sym, ◌∙◌}
use Rattle.hintmap.specs.Insert.{first_edge, again}
use Rattle.hintmap.proofs.insert.Edges.placed.Goals as goal

pub returns : goal.returns
unfolding again
returns c =
    let free : (first_edge c.args.self).locked ≡ false =
    rw c.first.ensures at (sym c.is_locked.ensures ∙ c.if-is_locked.false) in
    λ ts. rw free (c.around.ensures ∙ rw (c.transform.ensures ts, c.middle.ensures))
