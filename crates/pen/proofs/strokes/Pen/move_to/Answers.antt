-- `Pen::move_to` meets its contract: the words of a close, and three more behind them. Assumes
-- nothing.
use mathlib.Core.List.{◌∷◌}
use native.Mathlib.Omega.{arith}
use lib.IntN.{pos}
use Rattle.pen.specs.Strokes.{closing_words, point_words, move_of}
use Rattle.pen.proofs.Words.{behind, closing-short, move-length}
use Rattle.pen.proofs.Drew.{drew, no_room}
use Rattle.pen.proofs.strokes.Pen.move_to.Goals as goal

pub overflow_add-count : goal.overflow_add-count
overflow_add-count c = omega (arith, c.close_len-closed.ensures, closing-short c.args.self)

pub returns-then-out-count : goal.returns-then-out-count
returns-then-out-count c =
    let a = c.args in
    no_room c.refused.ensures
    (omega (arith, c.if-out-count.true, c.close_len-closed.ensures, move-length a.self a.at a.device))

pub returns : goal.returns
unfolding move_of
returns c =
    let a = c.args in
    let n = c.close_len-closed.ensures in
    let vs = pos 1 ∷ point_words a.device in
    drew (omega (arith, n, move-length a.self a.at a.device)) (omega (arith, c.if-out-count.false))
    (behind (closing_words a.self) vs a.out.now n c.close.ensures c.write_point.ensures)
