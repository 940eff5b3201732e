-- `Gauge::capture_by` meets its contract, by what the holder is. Assumes nothing.
use Rattle.std.proofs.Common.{◌≡◌, List, [], refl, sym, ◌∙◌}
use Rattle.stems.specs.declared.edge.Hint.{Hint}
use Rattle.fixed.proofs.Counts.{take-least}
use Rattle.zones.specs.declared.blues.BlueZone.{BlueZone}
use Rattle.zones.specs.declared.state.Gauge.{Gauge}
use Rattle.zones.specs.Capture.{bottom_goal, top_goal, capture_move, capture_of}
use Rattle.zones.specs.Numbers.{zones_in, state_by}
use Rattle.zones.proofs.Listing.{zones-long}
use Rattle.zones.proofs.state.Gauge.capture_by.Goals as goal

-- a move goes by the zone that holds, and by no other
move-is : (g : Gauge) (zs : List BlueZone) (z : BlueZone) (b t : Hint) →
    capture_move (state_by g []) z b t ≡ capture_move (state_by g zs) z b t
unfolding capture_move bottom_goal top_goal
move-is g zs z b t = refl

pub returns-in-Some : goal.returns-in-Some
unfolding capture_of
returns-in-Some c =
    let a = c.args in
    let zs = zones_in a.zones.now in
    rw (
      sym (take-least a.self.zone_count 12 zs (zones-long a.zones.now)),
      sym c.least-count.ensures,
      sym c.holder.ensures,
      c.in-Some.is,
      c.lift.ensures,
      c.lift-in-Some.ensures,
      c.move_by-by.ensures ∙ move-is a.self zs _ a.bottom a.top,
    )

pub returns-in-None : goal.returns-in-None
unfolding capture_of
returns-in-None c =
    let a = c.args in
    let zs = zones_in a.zones.now in
    rw (
      sym (take-least a.self.zone_count 12 zs (zones-long a.zones.now)),
      sym c.least-count.ensures,
      sym c.holder.ensures,
      c.in-None.is,
    )
