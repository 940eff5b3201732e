-- `counted` meets its contract: an edge that is at or below the height has none above before it. Assumes
-- nothing.
use Rattle.std.proofs.Common.{◌≡◌, true, false, ◌+◌, sym, ◌∙◌, arith}
use Rattle.fixed.specs.Fixed.{at_most_f}
use Rattle.fixed.proofs.Order.{heights}
use Rattle.stems.specs.Lists.{height_in}
use Rattle.stems.proofs.Places.{before-next}
use Rattle.hintmap.proofs.Compared.{at_most-is}
use Rattle.hintmap.proofs.Found.{reaches}
use Rattle.hintmap.proofs.heights.counted.Goals as goal
use Rattle.hintmap.proofs.heights.counted.Goals.{then-le, else-le}

pub loop-i-preserved : goal.loop-i-preserved
loop-i-preserved c =
    let a = c.args in
    let i = c.loop-i.i in
    let n = c.loop-i.count in
    let v = c.loop-i.invariant in
    elim c.if-le.branch [
      | then-le w ↦
          let t : at_most_f (height_in a.lines.now i) a.height ≡ true = rw (at_most-is, c.height_at.ensures) at
          (sym c.le.ensures ∙ w.if-le.true) in
          let r = c.requires.1.1 (n + 1) i (omega arith) (omega arith) in
          rw w.count-is (
            omega arith,
            (
              before-next n v.1.0 (omega heights),
              λ j o k. let b = v.1.1 (n + 1) (omega arith) (omega arith) in omega heights,
            ),
          )
      | else-le w ↦
          let t : at_most_f (height_in a.lines.now i) a.height ≡ false = rw (at_most-is, c.height_at.ensures) at
          (sym c.le.ensures ∙ w.if-le.false) in
          rw w.count-is (omega arith, (v.1.0, before-next i v.1.1 (λ k. t)))
    ]

pub returns : goal.returns
returns c =
    let a = c.args in
    let n = c.loop-i.count in
    let v = c.loop-i.invariant in (
      omega arith,
      reaches a.lines.now a.len a.height (omega arith) n (omega arith) v.1.0
          (λ l. v.1.1 (n + 1) (omega arith) (omega arith)),
    )
