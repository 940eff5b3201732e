-- Any two outcomes that meet the contract of an exported function are equal, over that contract as
-- the toolchain reads it: number, place, glyph, what was written or the summary's counts, and the
-- whole buffer. Assumes nothing.
use mathlib.Core.Path.{◌≡◌, sym, ◌∙◌}
use borrow.Fn.Kinds.{ended_of}
use borrow.Fn.World.{ArgsD, ResD}
use contract.Lifetimes.{Lfts}
use denote.Triple.Clauses.{AtExit}
use Rattle.spoonglacier.specs.contracts.spoonglacier_edges as edges
use Rattle.spoonglacier.proofs.spoonglacier_edges.Kinds as edges-kinds
use Rattle.spoonglacier.proofs.spoonglacier_edges.Reads as edges-reads
use Rattle.spoonglacier.specs.contracts.spoonglacier_labels as labels
use Rattle.spoonglacier.proofs.spoonglacier_labels.Kinds as labels-kinds
use Rattle.spoonglacier.proofs.spoonglacier_labels.Reads as labels-reads
use Rattle.spoonglacier.specs.contracts.spoonglacier_write as write
use Rattle.spoonglacier.proofs.spoonglacier_write.Kinds as write-kinds
use Rattle.spoonglacier.proofs.spoonglacier_write.Reads as write-reads
use Rattle.spoonglacier.specs.contracts.spoonglacier_run as run
use Rattle.spoonglacier.proofs.spoonglacier_run.Kinds as run-kinds
use Rattle.spoonglacier.proofs.spoonglacier_run.Reads as run-reads

module _ (κs : Lfts 3) (a : ArgsD run.signature κs) (r r' : ResD run.signature κs)
    (x x' : AtExit (ended_of 3 run-kinds.ps run-kinds.r) κs) where
  pub run-unique : run-reads.Post κs a r x → run-reads.Post κs a r' x' →
      (r ≡ r') × ((x.1.0.now ≡ x'.1.0.now) × (x.1.1.0.now ≡ x'.1.1.0.now))
  run-unique p q = (p.number ∙ sym q.number, (p.memory ∙ sym q.memory, p.place ∙ sym q.place))

module _ (κs : Lfts 6) (a : ArgsD write.signature κs) (r r' : ResD write.signature κs)
    (x x' : AtExit (ended_of 6 write-kinds.ps write-kinds.r) κs) where
  pub write-unique : write-reads.Post κs a r x → write-reads.Post κs a r' x' →
      (r ≡ r') × ((x.1.1.1.1.0.now ≡ x'.1.1.1.1.0.now) ×
      ((x.1.1.1.1.1.0.now ≡ x'.1.1.1.1.1.0.now) ×
      (x.1.1.1.1.1.1.0.now ≡ x'.1.1.1.1.1.1.0.now)))
  write-unique p q = (
    p.number ∙ sym q.number,
    (p.memory ∙ sym q.memory, (p.written ∙ sym q.written, p.place ∙ sym q.place)),
  )

module _ (κs : Lfts 7) (a : ArgsD edges.signature κs) (r r' : ResD edges.signature κs)
    (x x' : AtExit (ended_of 7 edges-kinds.ps edges-kinds.r) κs) where
  pub edges-unique : edges-reads.Post κs a r x → edges-reads.Post κs a r' x' →
      (r ≡ r') × ((x.1.1.0.now ≡ x'.1.1.0.now) × ((x.1.1.1.0.now ≡ x'.1.1.1.0.now) ×
      ((x.1.1.1.1.0.now ≡ x'.1.1.1.1.0.now) × ((x.1.1.1.1.1.0.now ≡ x'.1.1.1.1.1.0.now) ×
      ((x.1.1.1.1.1.1.0.now ≡ x'.1.1.1.1.1.1.0.now) ×
      (x.1.1.1.1.1.1.1.0.now ≡ x'.1.1.1.1.1.1.1.0.now))))))
  edges-unique p q = (
    p.number ∙ sym q.number,
    (
      p.memory ∙ sym q.memory,
      (
        p.edges ∙ sym q.edges,
        (
          p.pairs ∙ sym q.pairs,
          (p.ghosts ∙ sym q.ghosts, (p.locked ∙ sym q.locked, p.place ∙ sym q.place)),
        ),
      ),
    ),
  )

module _ (κs : Lfts 8) (a : ArgsD labels.signature κs) (r r' : ResD labels.signature κs)
    (x x' : AtExit (ended_of 8 labels-kinds.ps labels-kinds.r) κs) where
  pub labels-unique : labels-reads.Post κs a r x → labels-reads.Post κs a r' x' →
      (r ≡ r') × ((x.1.1.1.1.1.0.now ≡ x'.1.1.1.1.1.0.now) ×
      ((x.1.1.1.1.1.1.0.now ≡ x'.1.1.1.1.1.1.0.now) ×
      ((x.1.1.1.1.1.1.1.0.now ≡ x'.1.1.1.1.1.1.1.0.now) ×
      (x.1.1.1.1.1.1.1.1.0.now ≡ x'.1.1.1.1.1.1.1.1.0.now))))
  labels-unique p q = (
    p.number ∙ sym q.number,
    (
      p.memory ∙ sym q.memory,
      (p.written ∙ sym q.written, (p.glyph ∙ sym q.glyph, p.place ∙ sym q.place)),
    ),
  )
