-- `Pen::curve_to` meets its contract: the words of a flush, and seven more behind them. Assumes
-- nothing.
use mathlib.Core.List.{◌∷◌, ◌++◌}
use native.Mathlib.Omega.{arith}
use lib.IntN.{pos}
use Rattle.pen.specs.Strokes.{flush_words, point_words, curve_of}
use Rattle.pen.proofs.Words.{behind, flushing-short, curve-length}
use Rattle.pen.proofs.Drew.{drew, no_room}
use Rattle.pen.proofs.strokes.Pen.curve_to.Goals as goal

pub overflow_add-count : goal.overflow_add-count
overflow_add-count c = omega (arith, c.flush_len-flushed.ensures, flushing-short c.args.self)

pub returns-then-out-count : goal.returns-then-out-count
returns-then-out-count c =
    let a = c.args in
    let e = curve-length a.self a.first a.second a.end in
    no_room c.refused.ensures (omega (arith, c.if-out-count.true, c.flush_len-flushed.ensures, e))

pub returns : goal.returns
unfolding curve_of
returns c =
    let a = c.args in
    let n = c.flush_len-flushed.ensures in
    let e = curve-length a.self a.first a.second a.end in
    let vs = pos 3 ∷ point_words a.first ++ point_words a.second ++ point_words a.end in
    drew (omega (arith, n, e)) (omega (arith, c.if-out-count.false))
    (behind (flush_words a.self) vs a.out.now n c.flush.ensures c.write_curve.ensures)
