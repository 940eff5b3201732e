-- `reached` meets its contract, by the edge at which the walk ends. Assumes nothing.
use Rattle.std.proofs.Common.{◌≡◌, true, false, ◌+◌, ◌-◌, sym, ◌∙◌, arith}
use Rattle.fixed.specs.Fixed.{less_f, at_most_f}
use Rattle.fixed.proofs.Order.{heights}
use Rattle.stems.specs.Lists.{height_in}
use Rattle.hintmap.proofs.Compared.{less-is}
use Rattle.hintmap.proofs.Found.{reaches}
use Rattle.hintmap.proofs.heights.reached.Goals as goal

pub returns-then-lt : goal.returns-then-lt
returns-then-lt c =
    let a = c.args in
    let i = c.loop-next.next in
    let e : i - 1 + 1 ≡ i = omega arith in
    let over : less_f a.height (height_in a.lines.now i) ≡ true =
    rw (less-is, c.height_at.ensures) at (sym c.lt.ensures ∙ c.if-lt.true) in
    let above : at_most_f (height_in a.lines.now i) a.height ≡ false = omega heights in (
      omega arith,
      reaches a.lines.now a.len a.height (omega arith) (i - 1) (omega arith)
          (λ j l. c.loop-next.invariant (j + 1) (omega arith) (omega arith)) (λ _. rw e above),
    )

pub returns : goal.returns
returns c =
    let a = c.args in (
      omega arith,
      reaches a.lines.now a.len a.height (omega arith) (a.len - 1) (omega arith)
          (λ j l. c.loop-next.invariant (j + 1) (omega arith) (omega arith)) (λ l. absurd (omega arith)),
    )
