-- `HintState::list` meets its contract: each zone is at its place. Assumes nothing.
use Rattle.std.proofs.Common.{◌≡◌, ◌<◌, length, get_or, sym, ◌∙◌, arith, rules}
use Rattle.stems.proofs.Places.{before-next}
use Rattle.zones.specs.Zones.{no_zone}
use Rattle.zones.proofs.Listing.{all-zones, set_long, zone-here, zone-there}
use Rattle.zones.proofs.state.HintState.list.Goals as goal

pub loop-i-preserved : goal.loop-i-preserved
loop-i-preserved c =
    let i = c.loop-i.i in
    let p : i < 12 = omega arith in
    let v = c.loop-i.invariant in
    let zs = c.loop-i.zones in
    let z = get_or c.args.self.zones i no_zone in
    let e = c.put_zone.ensures in (
      rw e (set_long zs v.0 i p z),
      before-next i (λ j q. rw e (v.1 j q ∙ sym (zone-there zs v.0 i p z j (omega arith) (λ y. omega arith))))
          (rw e (sym (zone-here zs v.0 i p z))),
    )

pub returns : goal.returns
returns c =
    let zs = c.args.self.zones in
    let twelve : length zs ≡ 12 = search rules in
    all-zones c.loop-i.zones zs twelve (λ j q. c.loop-i.invariant.1 j (omega arith))
