-- `Sizes::counter` meets its contract, by those of its calls. Assumes nothing.
use Rattle.std.proofs.Common.{rules, sym, ◌≡◌, length, List, ℤ, subst}
use Rattle.zones.specs.Numbers.{state_in}
use Rattle.run.proofs.Building.{counter-kept}
use Rattle.run.proofs.kept.Sizes.counter.Goals as goal

pub make_map-requires : goal.make_map-requires
make_map-requires c =
    let b = c.with_initial-sizes.ensures in
    let long : length c.args.lists.now.stems ≡ 480 = search rules in (
      record {
        whole = record { all = search rules; named = b.0.whole.named };
        long = subst (λ (ns : List ℤ). length ns ≡ 480) (sym b.1.0) long;
        initial = b.0.fits;
      },
      b.1.1.1,
    )

pub returns : goal.returns
returns c =
    let b = c.with_initial-sizes.ensures in
    let m = c.make_map.ensures in
    let a = c.args in
    let st = state_in a.gauge a.zones.now in
    let z = c.with_initial-sizes.result in
    let is = c.with_initial-sizes.new.lists.initial in
    let ns = c.with_initial-sizes.new.lists.stems in (
      record {
        build = record {
          whole = record { all = b.0.whole.all; named = m.0.lent.whole.named };
          long = m.0.long;
          fits = b.0.fits;
        };
        kept = λ h bs ms k. counter-kept st h z bs ns is ms a.mask _ _ _ _ (rw b.1.0 (b.0.kept h bs ms k)) m.0;
      },
      (b.1.1.0, m.1),
    )
