-- The loop's invariant of `HintState::list`: the first `i` places hold the state's zones. Assumes nothing.
use Rattle.std.proofs.Common.{ℕ, ◌<◌, ◌≡◌, length, get_or}
use Rattle.zones.specs.Zones.{no_zone}
use Rattle.zones.specs.Numbers.{zone_in}
use Rattle.zones.proofs.state.HintState.list.Given as goal

abbrev pub invariant-loop-i : goal.invariant-loop-i
invariant-loop-i l =
    (length l.zones ≡ 60) ×
    ((j : ℕ) → j < l.i → get_or l.fn.self.zones j no_zone ≡ zone_in l.zones j)
