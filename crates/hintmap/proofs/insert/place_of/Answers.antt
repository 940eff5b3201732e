-- `place_of` meets its contract, by the edge under the height at which the walk down ends. Assumes
-- nothing.
use Rattle.std.proofs.Common.{◌≡◌, true, ◌+◌, ◌-◌, sym, ◌∙◌, arith}
use Rattle.fixed.specs.Fixed.{less_f}
use Rattle.stems.specs.Lists.{height_in}
use Rattle.hintmap.proofs.Compared.{less-is}
use Rattle.hintmap.proofs.Found.{places}
use Rattle.hintmap.proofs.insert.place_of.Goals as goal

pub returns-then-lt : goal.returns-then-lt
returns-then-lt c =
    let a = c.args in
    let at = c.loop-at.at in
    let e : at - 1 + 1 ≡ at = omega arith in
    let below : less_f (height_in a.lines.now (at - 1)) a.height ≡ true =
    rw (less-is, c.height_at.ensures) at (sym c.lt.ensures ∙ c.if-lt.true) in
    let there = places a.lines.now a.len a.height c.requires.0 at (omega arith) c.requires.1 (λ _. below)
    c.loop-at.invariant in
    (omega arith, λ ts. e ∙ there ts)

pub returns : goal.returns
returns c =
    let a = c.args in
    let z : c.loop-at.at ≡ 0 = omega arith in (
      omega arith,
      places a.lines.now a.len a.height c.requires.0 0 (omega arith) c.requires.1 (λ l. absurd (omega arith))
          (rw z at c.loop-at.invariant),
    )
