-- `HintState::new`'s loop: the zones are the first `i` of those kept, moved by the family and set on the
-- device, and the rest of the state is as it was. Assumes nothing.
use Rattle.std.proofs.Common.{◌≡◌, map, take}
use Rattle.zones.specs.Zones.{filled, moved_flat, device_flat}
use Rattle.zones.proofs.state.HintState.new.Given as goal

abbrev pub invariant-loop-i : goal.invariant-loop-i
invariant-loop-i l =
    let z = map (λ z. device_flat l.scale l.boost (moved_flat l.others l.blues l.limit z)) (take l.i l.zone-items) in
    l.state ≡ record l.initial.state { zones = filled z }
