-- `Sizes::with_initial` meets its contract: an initial map is made where there is none. Assumes
-- nothing.
use Rattle.std.proofs.Common.{rules, refl}
use Rattle.zones.specs.Numbers.{state_in}
use Rattle.run.proofs.Building.{stays-based, gets-based}
use Rattle.run.proofs.kept.Sizes.with_initial.Goals as goal

pub returns-then-self : goal.returns-then-self
returns-then-self c =
    let a = c.args in
    let st = state_in a.gauge a.zones.now in (
      record {
        whole = record { all = search rules; named = search rules };
        fits = c.requires;
        kept = λ h bs ms k. stays-based st h a.self bs _ _ ms k c.if-self.true;
      },
      (refl, (refl, search rules)),
    )

pub returns : goal.returns
returns c =
    let a = c.args in
    let st = state_in a.gauge a.zones.now in
    let m = c.make_initial-len.ensures.0 in (
      record {
        whole = m.lent.whole;
        fits = m.lent.fits;
        kept = λ h bs ms k. gets-based st h a.self bs _ _ ms k _ _ _ c.if-self.false m;
      },
      (refl, (refl, c.make_initial-len.ensures.1)),
    )
