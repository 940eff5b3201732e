-- Any two outcomes that meet the contract of a public function are equal, over that contract as the
-- toolchain reads it: the result, and the map or the edges that lists hold. Assumes nothing.
use mathlib.Core.Path.{◌≡◌, sym, ap, ◌∙◌}
use mathlib.Core.List.{[]}
use borrow.Fn.Kinds.{ended_of}
use borrow.Fn.World.{ArgsD, ResD}
use contract.Lifetimes.{Lfts}
use denote.Triple.Clauses.{AtExit}
use Rattle.fixed.specs.declared.Fixed.{Fixed}
use Rattle.fixed.specs.Fixed.{ZERO}
use Rattle.stems.specs.declared.edge.Hint.{Hint}
use Rattle.stems.specs.declared.edge.Shape.{Shape}
use Rattle.stems.specs.Lists.{edges_in}
use Rattle.hintmap.specs.declared.map.HintMap.{HintMap}
use Rattle.hintmap.specs.declared.insert.Edges.{Edges}
use Rattle.hintmap.specs.Map.{new_map}
use Rattle.hintmap.specs.Lent.{map_in}
use Rattle.hintmap.proofs.insert.Edges.choose.Reads as choose-reads
use Rattle.hintmap.proofs.map.HintMap.new.Reads as new-reads
use Rattle.hintmap.proofs.map.HintMap.invalidate.Reads as invalidate-reads
use Rattle.hintmap.proofs.map.HintMap.validate.Reads as validate-reads
use Rattle.hintmap.specs.contracts.map.HintMap.list as list
use Rattle.hintmap.proofs.map.HintMap.list.Kinds as list-kinds
use Rattle.hintmap.proofs.map.HintMap.list.Reads as list-reads
use Rattle.hintmap.specs.contracts.map.HintMap.from_lists as from-lists
use Rattle.hintmap.proofs.map.HintMap.from_lists.Kinds as from-lists-kinds
use Rattle.hintmap.proofs.map.HintMap.from_lists.Reads as from-lists-reads
use Rattle.hintmap.specs.contracts.heights.transform as transform
use Rattle.hintmap.proofs.heights.transform.Kinds as transform-kinds
use Rattle.hintmap.proofs.heights.transform.Reads as transform-reads
use Rattle.hintmap.specs.contracts.insert.Edges.placed as placed
use Rattle.hintmap.proofs.insert.Edges.placed.Kinds as placed-kinds
use Rattle.hintmap.proofs.insert.Edges.placed.Reads as placed-reads
use Rattle.hintmap.specs.contracts.insert.insert_edges as insert-edges
use Rattle.hintmap.proofs.insert.insert_edges.Kinds as insert-edges-kinds
use Rattle.hintmap.proofs.insert.insert_edges.Reads as insert-edges-reads

module _ (κs : Lfts 0) (r r' : HintMap) where
  pub new-unique : (s : Fixed) → new-reads.Post κs (s, tt) r (s, tt) → new-reads.Post κs (s, tt) r' (s, tt) → r ≡ r'
  new-unique s p q = p ∙ sym q

  module _ (m : HintMap) where
    pub invalidate-unique : invalidate-reads.Post κs (m, tt) r (m, tt) → invalidate-reads.Post κs (m, tt) r' (m, tt) →
        r ≡ r'
    invalidate-unique p q = p ∙ sym q

    pub validate-unique : validate-reads.Post κs (m, tt) r (m, tt) → validate-reads.Post κs (m, tt) r' (m, tt) → r ≡ r'
    validate-unique p q = p ∙ sym q

module _ (κs : Lfts 0) (h : Shape) (b t : Hint) (r r' : Edges) where
  pub choose-unique : choose-reads.Post κs (h, (b, (t, tt))) r (h, (b, (t, tt))) →
      choose-reads.Post κs (h, (b, (t, tt))) r' (h, (b, (t, tt))) → r ≡ r'
  choose-unique p q = p ∙ sym q

-- ---- what lists hold
module _ (κs : Lfts 1) (a : ArgsD transform.signature κs) (r r' : ResD transform.signature κs)
    (x x' : AtExit (ended_of 1 transform-kinds.ps transform-kinds.r) κs) where
  pub transform-unique : transform-reads.Post κs a r x → transform-reads.Post κs a r' x' →
      r ≡ r'
  transform-unique p q = p [] ∙ sym (q [])

module _ (κs : Lfts 1) (a : ArgsD placed.signature κs) (r r' : ResD placed.signature κs)
    (x x' : AtExit (ended_of 1 placed-kinds.ps placed-kinds.r) κs) where
  pub placed-unique : placed-reads.Post κs a r x → placed-reads.Post κs a r' x' →
      r ≡ r'
  placed-unique p q = p [] ∙ sym (q [])

module _ (κs : Lfts 2) (a : ArgsD from-lists.signature κs) (r r' : ResD from-lists.signature κs)
    (x x' : AtExit (ended_of 2 from-lists-kinds.ps from-lists-kinds.r) κs) where
  pub from-lists-unique : from-lists-reads.Post κs a r x → from-lists-reads.Post κs a r' x' →
      r ≡ r'
  from-lists-unique p q = p ∙ sym q

-- ---- what lists are left as
-- every edge that the lists hold
module _ (κs : Lfts 2) (a : ArgsD list.signature κs) (r r' : ResD list.signature κs)
    (x x' : AtExit (ended_of 2 list-kinds.ps list-kinds.r) κs) where
  pub list-unique : list-reads.Post κs a r x → list-reads.Post κs a r' x' →
      edges_in x.1.0.now x.1.1.0.now ≡ edges_in x'.1.0.now x'.1.1.0.now
  list-unique p q = p.edges ∙ sym q.edges

-- the length, and the map that the lists hold, whatever its scale
module _ (κs : Lfts 2) (a : ArgsD insert-edges.signature κs) (r r' : ResD insert-edges.signature κs)
    (x x' : AtExit (ended_of 2 insert-edges-kinds.ps insert-edges-kinds.r) κs) where
  pub insert-edges-unique : insert-edges-reads.Post κs a r x → insert-edges-reads.Post κs a r' x' →
      (r ≡ r') ×
      ((s : Fixed) → map_in x.0.now x.1.0.now r s ≡ map_in x'.0.now x'.1.0.now r' s)
  unfolding map_in
  insert-edges-unique p q =
      let same = p.map ZERO (new_map ZERO) ∙ sym (q.map ZERO (new_map ZERO)) in
      (ap (λ (m : HintMap). m.len) same, λ s. p.map s (new_map s) ∙ sym (q.map s (new_map s)))
