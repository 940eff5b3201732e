-- `Stems::list` meets its contract: a stem that is put at its place leaves those before it. Assumes
-- nothing.
use Rattle.std.proofs.Common.{◌≡◌, ◌<◌, sym, ap, ◌∙◌, arith, rules, List, length, get_or}
use Rattle.stems.specs.declared.edge.StemHint.{StemHint}
use Rattle.stems.specs.Lists.{stems_in}
use Rattle.stems.proofs.Places.{before-next, zero_stem, stem-here, stem-there, all-stems}
use Rattle.stems.proofs.edge.Stems.list.Goals as goal

pub loop-i-preserved : goal.loop-i-preserved
loop-i-preserved c =
    let l = c.loop-i in
    let p : l.i < 96 = omega arith in
    let n = l.invariant.0 in
    let st = get_or c.args.self.list l.i zero_stem in
    let e = c.put_stem.ensures in (
      c.put_stem.array_long,
      before-next l.i
          (λ j q. rw e (l.invariant.1 j q ∙ sym (stem-there l.stems n l.i p st j (omega arith) (λ z. omega arith))))
          (rw e (sym (stem-here l.stems n l.i p st))),
    )

pub returns : goal.returns
unfolding stems_in
returns c =
    let l = c.loop-i in
    let long : length c.args.self.list ≡ 96 = search rules in
    record {
      long = l.invariant.0;
      stems =
          ap (λ (xs : List StemHint). record { list = xs; count = c.args.self.count })
          (sym (all-stems l.stems c.args.self.count c.args.self.list long (λ j q. l.invariant.1 j (omega arith))));
    }
