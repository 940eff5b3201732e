-- `put_baseline` meets its contract, by those of its calls. Assumes nothing.
use Rattle.std.proofs.Common.{◌≡◌, Bool, sym, ap, ◌∙◌}
use Rattle.hintmap.specs.declared.map.HintMap.{HintMap}
use Rattle.hintmap.specs.Lent.{map_in}
use Rattle.build.specs.Ghosts.{uncovered, baseline_by, baselined}
use Rattle.build.proofs.ghosts.put_baseline.Goals as goal

-- what is asked for, by the test
asked : (m : HintMap) {r b : Bool} → r ≡ uncovered m → r ≡ b → baseline_by b m ≡ baselined m
unfolding baselined
asked m e t = ap (λ (b : Bool). baseline_by b m) (sym t ∙ e)

pub returns-then-is_uncovered : goal.returns-then-is_uncovered
unfolding map_in
returns-then-is_uncovered c =
    let a = c.args in
    let m = map_in a.lines.now a.tags.now a.len a.scale in
    record {
      lent = c.insert_edges.ensures.lent;
      map = rw c.ghost_at-baseline.ensures at (c.insert_edges.ensures.map a.scale m) ∙
          asked m (c.is_uncovered.ensures a.tags.now a.scale) c.if-is_uncovered.true;
    }

pub returns-else-is_uncovered : goal.returns-else-is_uncovered
returns-else-is_uncovered c =
    let a = c.args in
    let m = map_in a.lines.now a.tags.now a.len a.scale in
    record {
      lent = c.requires;
      map = asked m (c.is_uncovered.ensures a.tags.now a.scale) c.if-is_uncovered.false;
    }
