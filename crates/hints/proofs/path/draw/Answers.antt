-- `draw` meets its contract: lists hold the map's lines. Assumes nothing.
use mathlib.Core.Path.{refl}
use Rattle.hintmap.proofs.Near.{held-long}
use Rattle.hintmap.proofs.Lent.{listed-lines}
use Rattle.hints.proofs.path.draw.Goals as goal

pub returns : goal.returns
returns c =
    let m = c.args.map in
    c.draw_by_lines.ensures m refl
    (listed-lines m _ _ _ (held-long m c.well_formed.0.1.1.0.1.0.1) c.list.ensures c.min-len.ensures)
