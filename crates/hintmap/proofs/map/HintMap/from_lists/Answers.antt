-- `HintMap::from_lists` meets its contract: the map has one more edge of the lists after each turn.
-- Assumes nothing.
use Rattle.std.proofs.Common.{◌≡◌, false, ap, List, arith}
use Rattle.stems.specs.declared.edge.Hint.{Hint}
use Rattle.hintmap.specs.Lent.{map_in}
use Rattle.hintmap.proofs.Lent.{grown}
use Rattle.hintmap.proofs.map.HintMap.from_lists.Goals as goal

pub loop-i-init : goal.loop-i-init
unfolding map_in
loop-i-init c = rw c.new-map.ensures

pub loop-i-preserved : goal.loop-i-preserved
loop-i-preserved c =
    let a = c.args in
    let g = grown a.lines.now a.tags.now c.loop-i.i a.scale (omega arith) in
    rw (c.loop-i.invariant, c.edge_at.ensures)
    (ap (λ (es : List Hint). record { edges = es; len = 0; is_valid = false; scale = a.scale }) g)

pub returns : goal.returns
unfolding map_in
returns c =
    let k : c.loop-i.i ≡ c.args.len = omega arith in
    rw (c.loop-i.invariant, k)
