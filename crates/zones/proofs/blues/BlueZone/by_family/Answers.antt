-- `BlueZone::by_family` meets its contract, by the two tests. Assumes nothing.
use Rattle.std.proofs.Common.{◌≡◌, length, sym, ◌∙◌, arith, rules}
use Rattle.zones.specs.Zones.{list_of, first_too, moved_flat}
use Rattle.zones.proofs.Family.{first-none, first_some}
use Rattle.zones.proofs.blues.BlueZone.by_family.Goals as goal
use Rattle.zones.proofs.blues.BlueZone.by_family.Goals.{then-blues-ne0, else-blues-ne0}

pub returns-then-not-self : goal.returns-then-not-self
unfolding moved_flat
returns-then-not-self c = grind (arith, c.nearest-near.ensures)

pub returns : goal.returns
unfolding moved_flat
returns c =
    let bs = c.args.blues in
    let seven : length bs.pairs ≡ 7 = search rules in
    let looked :
    c.if-blues-ne0.near ≡ first_too c.args.self.cs_flat_edge c.args.limit c.nearest-near-2.result (list_of bs) =
    elim c.if-blues-ne0.branch [
      | then-blues-ne0 w ↦
          w.near-is ∙ w.with-near.ensures ∙
          sym (first_some _ _ _ bs.count bs.pairs (omega (arith, w.if-blues-ne0.true)) (omega (arith, seven)))
      | else-blues-ne0 w ↦ w.near-is ∙ sym (first-none _ _ _ _ _ w.if-blues-ne0.false)
    ]
    in
    rw (looked, c.nearest-near-2.ensures) (grind arith)
