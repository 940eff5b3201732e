-- `holder` meets its contract, by what its test says of the zones from `i` on. Assumes nothing.
use Rattle.std.proofs.Common.{sym, ◌∙◌}
use Rattle.zones.proofs.Holding.{holder-at, holder-ends}
use Rattle.zones.proofs.capture.holder.Goals as goal

pub returns-then-holds : goal.returns-then-holds
returns-then-holds c =
    let a = c.args in
    sym (sym c.loop-i.invariant ∙ holder-at a.fuzz a.bottom a.top a.zones.now a.count c.requires c.loop-i.i
    c.loop-i-test.true c.zone_at-zone.ensures c.holds.ensures ∙ rw c.if-holds.true)

pub loop-i-preserved : goal.loop-i-preserved
loop-i-preserved c =
    let a = c.args in
    sym (sym c.loop-i.invariant ∙ holder-at a.fuzz a.bottom a.top a.zones.now a.count c.requires c.loop-i.i
    c.loop-i-test.true c.zone_at-zone.ensures c.holds.ensures ∙ rw c.if-holds.false)

pub returns : goal.returns
returns c =
    let a = c.args in
    sym (holder-ends a.fuzz a.bottom a.top a.zones.now a.count c.requires c.loop-i.i c.loop-i-test.false) ∙
    c.loop-i.invariant
