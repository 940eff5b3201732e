-- Any two outcomes that meet the contract of a public function are equal, over that contract as the
-- toolchain reads it: the result, and the map and the stems that lists hold. Assumes nothing.
use mathlib.Core.Path.{◌≡◌, sym, ap, ◌∙◌}
use mathlib.Core.List.{[]}
use borrow.Fn.Kinds.{ended_of}
use borrow.Fn.World.{ArgsD, ResD}
use contract.Lifetimes.{Lfts}
use denote.Triple.Clauses.{AtExit}
use Rattle.stems.specs.declared.mask.HintMask.{HintMask}
use Rattle.zones.specs.declared.state.HintState.{HintState}
use Rattle.hintmap.specs.declared.map.HintMap.{HintMap}
use Rattle.hintmap.specs.Map.{invalid_map}
use Rattle.hintmap.specs.Lent.{map_in}
use Rattle.hintmap.proofs.Lent.{own-lines, map-scale}
use Rattle.stems.specs.declared.edge.Stems.{Stems}
use Rattle.stems.specs.Lists.{stems_in}
use Rattle.build.specs.declared.map.Built.{Built}
use Rattle.build.proofs.initial.build_initial.Reads as build-initial-reads
use Rattle.build.proofs.map.build_map.Reads as build-map-reads
use Rattle.build.specs.contracts.initial.make_initial as make-initial
use Rattle.build.proofs.initial.make_initial.Kinds as make-initial-kinds
use Rattle.build.proofs.initial.make_initial.Reads as make-initial-reads
use Rattle.build.specs.contracts.map.make_map as make-map
use Rattle.build.proofs.map.make_map.Kinds as make-map-kinds
use Rattle.build.proofs.map.make_map.Reads as make-map-reads

module _ (κs : Lfts 0) (st : HintState) (ss : Stems) where
  pub build-initial-unique : (r r' : HintMap) → build-initial-reads.Post κs (st, (ss, tt)) r (st, (ss, tt)) →
      build-initial-reads.Post κs (st, (ss, tt)) r' (st, (ss, tt)) → r ≡ r'
  build-initial-unique r r' p q = p ∙ sym q

  pub build-map-unique : (mask : HintMask) (initial : HintMap) (r r' : Built) →
      build-map-reads.Post κs (st, (mask, (ss, (initial, tt)))) r (st, (mask, (ss, (initial, tt)))) →
      build-map-reads.Post κs (st, (mask, (ss, (initial, tt)))) r' (st, (mask, (ss, (initial, tt)))) → r ≡ r'
  build-map-unique mask initial r r' p q = p ∙ sym q

-- the length, and the map that the lists hold
module _ (κs : Lfts 5) (a : ArgsD make-initial.signature κs) (r r' : ResD make-initial.signature κs)
    (x x' : AtExit (ended_of 5 make-initial-kinds.ps make-initial-kinds.r) κs) where
  pub make-initial-unique : make-initial-reads.Post κs a r x → make-initial-reads.Post κs a r' x' →
      (r ≡ r') × (map_in x.0.now x.1.0.now r a.1.1.0.scale ≡
      map_in x'.0.now x'.1.0.now r' a.1.1.0.scale)
  unfolding map_in
  make-initial-unique p q =
      let same = p.0.map ∙ sym q.0.map in
      (ap (λ (m : HintMap). m.len) same, ap invalid_map same)

-- the length, the map and the stems that the lists hold, by a map that has the initial lines
module _ (κs : Lfts 6) (a : ArgsD make-map.signature κs) (r r' : ResD make-map.signature κs)
    (x x' : AtExit (ended_of 6 make-map-kinds.ps make-map-kinds.r) κs) where
  pub make-map-unique : make-map-reads.Pre κs a → make-map-reads.Post κs a r x → make-map-reads.Post κs a r' x' →
      (r ≡ r') × ((map_in x.0.now x.1.0.now r a.1.1.0.scale ≡
      map_in x'.0.now x'.1.0.now r' a.1.1.0.scale) ×
      (stems_in x.1.1.1.1.1.0.now a.1.1.1.1.1.1.0 ≡
      stems_in x'.1.1.1.1.1.0.now a.1.1.1.1.1.1.0))
  unfolding map_in
  make-map-unique o p q =
      let ls = a.1.1.1.1.1.1.1.0.now in
      let n = a.1.1.1.1.1.1.1.1.0 in
      let s = a.1.1.1.1.1.1.1.1.1.0 in
      let i = map_in ls [] n s in
      let l = own-lines ls [] n o.0.initial s in
      let e = map-scale ls [] n o.0.initial s in
      let same = p.0.built i e l ∙ sym (q.0.built i e l) in (
        ap (λ (b : Built). b.map.len) same,
        (ap (λ (b : Built). invalid_map b.map) same, ap (λ (b : Built). b.stems) same),
      )
