-- `holder`'s loop: the first zone from `i` on that holds is the first of all. Assumes nothing.
use Rattle.std.proofs.Common.{◌≡◌, take, drop}
use Rattle.zones.specs.Numbers.{zones_in}
use Rattle.zones.specs.Capture.{first_holding}
use Rattle.zones.proofs.capture.holder.Given as goal

abbrev pub invariant-loop-i : goal.invariant-loop-i
invariant-loop-i l =
    first_holding l.fuzz l.bottom l.top (drop l.i (take l.count (zones_in l.zones))) ≡
    first_holding l.fuzz l.bottom l.top (take l.count (zones_in l.zones))
