-- `by_path` meets its contract: what `draw` drew by a valid map is the call of the path. Assumes
-- nothing.
use Rattle.drawing.proofs.Settled.{valid-called}
use Rattle.drawing.proofs.calls.by_path.Goals as goal

pub returns-then-drawing : goal.returns-then-drawing
returns-then-drawing c =
    let a = c.args in
    valid-called a.state a.drawing a.path c.if-drawing.true c.draw-answer.ensures
