-- `Sizes::ready` meets its contract, by those of its calls. Assumes nothing.
use Rattle.std.proofs.Common.{rules, refl, sym, ◌≡◌, ◌∙◌, length, List, ℤ, subst}
use Rattle.zones.specs.Numbers.{state_in}
use Rattle.run.proofs.Building.{ready-kept, twelve_bytes}
use Rattle.run.proofs.kept.Sizes.ready.Goals as goal

pub make_map-len-requires : goal.make_map-len-requires
make_map-len-requires c =
    let b = c.with_initial-based.ensures in
    let long : length c.args.lists.now.stems ≡ 480 = search rules in
    let all : length c.args.lists.now.map ≡ 288 = search rules in (
      record {
        whole = record {
          all = subst (λ (ls : List ℤ). length ls ≡ 288) (sym b.1.1.0) all;
          named = b.0.whole.named;
        };
        long = subst (λ (ns : List ℤ). length ns ≡ 480) (sym b.1.0) long;
        initial = b.0.fits;
      },
      b.1.1.1,
    )

pub returns : goal.returns
returns c =
    let b = c.with_initial-based.ensures in
    let m = c.make_map-len.ensures in
    let st = state_in c.args.gauge c.args.zones.now in
    let z = c.with_initial-based.result in
    let is = c.with_initial-based.new.lists.initial in
    let ns = c.with_initial-based.new.lists.stems in
    let twelve : length c.args.mask.now ≡ 12 = search rules in
    let e = c.new-present.ensures ∙ twelve_bytes _ twelve in (
      record {
        map = record {
          build = record {
            whole = record { all = b.0.whole.all; named = m.0.lent.whole.named };
            long = m.0.long;
            fits = b.0.fits;
          };
          current = m.0.lent.whole.all;
          twelve = twelve;
        };
        valid = refl;
        kept = λ h ms v k. ready-kept st h z _ ns is ms _ _ _ _ (k.map.valid ∙ v)
            (rw b.1.0 (b.0.kept h _ ms k)) (rw e at m.0);
      },
      m.1,
    )
