-- `Pen::finish` meets its contract: the words of a close, and one more behind them. Assumes
-- nothing.
use native.Mathlib.Omega.{arith}
use lib.IntN.{pos}
use Rattle.pen.specs.Strokes.{closing_words, finish_of}
use Rattle.pen.proofs.Words.{one-behind, closing-short, finish-length}
use Rattle.pen.proofs.Drew.{drew, no_room}
use Rattle.pen.proofs.strokes.Pen.finish.Goals as goal

pub overflow_add-count : goal.overflow_add-count
overflow_add-count c = omega (arith, c.close_len-closed.ensures, closing-short c.args.self)

pub returns-then-out-count : goal.returns-then-out-count
returns-then-out-count c =
    no_room c.refused.ensures
    (omega (arith, c.if-out-count.true, c.close_len-closed.ensures, finish-length c.args.self))

pub returns : goal.returns
unfolding finish_of
returns c =
    let a = c.args in
    let n = c.close_len-closed.ensures in
    rw c.new.ensures
    (drew (omega (arith, n, finish-length a.self)) (omega (arith, c.if-out-count.false))
    (one-behind (closing_words a.self) a.out.now (pos 5) n c.close.ensures (omega (arith, c.if-out-count.false))))
