-- `Pen::close` meets its contract: no words, a close alone, or a line and a close, told by their
-- number. Assumes nothing.
use mathlib.Core.Path.{◌≡◌, refl, sym, ap}
use mathlib.Core.List.{◌∷◌, []}
use Prim.Native.Nat.{◌<◌}
use native.Mathlib.Omega.{arith}
use lib.IntN.{pos}
use lib.ListN.{length, length-append}
use Rattle.pen.specs.declared.strokes.Pen.{Pen}
use Rattle.pen.specs.Records.{written}
use Rattle.pen.specs.Strokes.{flush_words, closing_words}
use Rattle.pen.proofs.Words.{one-behind, written_none, closing-lone, closing-line}
use Rattle.pen.proofs.strokes.Pen.close.Goals as goal

-- more words than one are three and a close
room : (pen : Pen) → 1 < length (closing_words pen) → length (closing_words pen) ≡ 4
room pen h =
    let told = closing-line pen h in
    omega (arith, told.0, ap length told.1, length-append (flush_words pen) (pos 4 ∷ []))

pub returns-then-count-eq0 : goal.returns-then-count-eq0
returns-then-count-eq0 c =
    let a = c.args in
    sym (written_none (closing_words a.self) a.out.now (omega (arith, c.close_len-count.ensures, c.if-count-eq0.true)))

pub returns-then-count-eq-BARE_RECORD : goal.returns-then-count-eq-BARE_RECORD
unfolding written
returns-then-count-eq-BARE_RECORD c =
    let e = closing-lone c.args.self (omega (arith, c.close_len-count.ensures, c.if-count-eq-BARE_RECORD.true)) in
    rw e (one-behind [] c.args.out.now (pos 4) refl refl (omega (arith, ap length e, c.requires)))

pub flush-requires : goal.flush-requires
flush-requires c =
    let h : 1 < length (closing_words c.args.self) =
    omega (arith, c.close_len-count.ensures, c.if-count-eq0.false, c.if-count-eq-BARE_RECORD.false) in
    omega (arith, (closing-line c.args.self h).0, room c.args.self h, c.requires)

pub bounds-out-3 : goal.bounds-out-3
bounds-out-3 c =
    let h : 1 < length (closing_words c.args.self) =
    omega (arith, c.close_len-count.ensures, c.if-count-eq0.false, c.if-count-eq-BARE_RECORD.false) in
    omega (arith, room c.args.self h, c.requires, c.flush.auto.out)

pub returns : goal.returns
returns c =
    let h : 1 < length (closing_words c.args.self) =
    omega (arith, c.close_len-count.ensures, c.if-count-eq0.false, c.if-count-eq-BARE_RECORD.false) in
    let told = closing-line c.args.self h in
    rw told.1
    (one-behind (flush_words c.args.self) c.args.out.now (pos 4) (sym told.0) c.flush.ensures
    (omega (arith, room c.args.self h, c.requires)))
