-- `Pen::line_to` meets its contract: the words of a flush. Assumes nothing.
use native.Mathlib.Omega.{arith}
use Rattle.pen.specs.Strokes.{line_of}
use Rattle.pen.proofs.Words.{line-length}
use Rattle.pen.proofs.Drew.{drew, no_room}
use Rattle.pen.proofs.strokes.Pen.line_to.Goals as goal

pub returns-then-out-count : goal.returns-then-out-count
returns-then-out-count c =
    let a = c.args in
    no_room c.refused.ensures
    (omega (arith, c.if-out-count.true, c.flush_len-count.ensures, line-length a.self a.at a.device))

pub returns : goal.returns
unfolding line_of
returns c = drew c.flush_len-count.ensures (omega (arith, c.if-out-count.false)) c.flush.ensures
