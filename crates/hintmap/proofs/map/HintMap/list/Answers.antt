-- `HintMap::list` meets its contract: each edge is at its place. Assumes nothing.
use Rattle.std.proofs.Common.{◌<◌, length, get_or, sym, ap, ◌∙◌, arith, rules}
use lib.Seq.{ext_get_or, get_or-set_same, get_or-set_other}
use Rattle.stems.specs.Edge.{no_hint}
use Rattle.stems.specs.Lists.{edges_in}
use Rattle.stems.proofs.Places.{before-next, edges-long, put_is, put_whole}
use Rattle.hintmap.proofs.Near.{held-long}
use Rattle.hintmap.proofs.map.HintMap.list.Goals as goal

pub loop-i-preserved : goal.loop-i-preserved
loop-i-preserved c =
    let i = c.loop-i.i in
    let p : i < 96 = omega arith in
    let v = c.loop-i.invariant in
    let m = c.put_edge.ensures in
    let es = edges_in c.loop-i.lines c.loop-i.tags in
    let e = put_is _ _ v.0 i p _ m in
    let k : i < length es = omega (arith, edges-long c.loop-i.lines c.loop-i.tags) in (
      put_whole _ _ v.0 i p _ m,
      before-next i
          (λ j q. ap (λ x. get_or x j no_hint) e ∙ get_or-set_other es i j _ no_hint (λ z. omega arith) ∙ v.1 j q)
          (ap (λ x. get_or x i no_hint) e ∙ get_or-set_same es i _ no_hint k),
    )

pub returns : goal.returns
returns c =
    let a = edges-long c.loop-i.lines c.loop-i.tags in
    let b = held-long c.args.self (search rules) in
    record {
      whole = c.loop-i.invariant.0;
      edges = ext_get_or no_hint _ _ (a ∙ sym b) (λ j q. c.loop-i.invariant.1 j (omega (arith, a)));
    }
