-- Any two outcomes that meet the contract of a function are equal, over that contract as the
-- toolchain reads it: the answer with its number, place and summary, and every word of the list.
-- Assumes nothing.
use mathlib.Core.Path.{◌≡◌, sym, ◌∙◌}
use Prim.Native.Nat.{ℕ}
use borrow.Fn.Kinds.{ended_of}
use borrow.Fn.World.{ArgsD, ResD}
use contract.Lifetimes.{Lfts}
use denote.Triple.Clauses.{AtExit}
use Rattle.listing.specs.declared.summary.Summary.{Summary}
use Rattle.overlay.specs.declared.answer.LookRefusal.{LookRefusal}
use Rattle.overlay.specs.Seen.{SeenAnswer}
use Rattle.overlay.proofs.answer.LookRefusal.code.Reads as refusal_code-reads
use Rattle.overlay.proofs.answer.LookRefusal.place.Reads as refusal_place-reads
use Rattle.overlay.proofs.answer.code.Reads as code_Reads
use Rattle.overlay.proofs.answer.place.Reads as place-reads
use Rattle.overlay.proofs.answer.summary.Reads as summary-reads
use Rattle.overlay.specs.contracts.seeing.see_edges as see-edges
use Rattle.overlay.proofs.seeing.see_edges.Kinds as see-edges-kinds
use Rattle.overlay.proofs.seeing.see_edges.Reads as see-edges-reads

module _ (κs : Lfts 0) (a : LookRefusal) (r r' : ℕ) where
  pub refusal_code-unique : refusal_code-reads.Post κs (a, tt) r (a, tt) →
      refusal_code-reads.Post κs (a, tt) r' (a, tt) → r ≡ r'
  refusal_code-unique p q = p ∙ sym q

  pub refusal_place-unique : refusal_place-reads.Post κs (a, tt) r (a, tt) →
      refusal_place-reads.Post κs (a, tt) r' (a, tt) → r ≡ r'
  refusal_place-unique p q = p ∙ sym q

module _ (κs : Lfts 0) (a : SeenAnswer) where
  pub code-unique : (r r' : ℕ) → code_Reads.Post κs (a, tt) r (a, tt) → code_Reads.Post κs (a, tt) r' (a, tt) → r ≡ r'
  code-unique r r' p q = p ∙ sym q

  pub place-unique : (r r' : ℕ) → place-reads.Post κs (a, tt) r (a, tt) → place-reads.Post κs (a, tt) r' (a, tt) →
      r ≡ r'
  place-unique r r' p q = p ∙ sym q

  pub summary-unique : (r r' : Summary) → summary-reads.Post κs (a, tt) r (a, tt) →
      summary-reads.Post κs (a, tt) r' (a, tt) → r ≡ r'
  summary-unique r r' p q = p ∙ sym q

module _ (κs : Lfts 2) (a : ArgsD see-edges.signature κs) (r r' : ResD see-edges.signature κs)
    (x x' : AtExit (ended_of 2 see-edges-kinds.ps see-edges-kinds.r) κs) where
  pub see-edges-unique : see-edges-reads.Post κs a r x → see-edges-reads.Post κs a r' x' →
      (r ≡ r') × (x.1.1.0.now ≡ x'.1.1.0.now)
  see-edges-unique p q = (p.answer ∙ sym q.answer, p.memory ∙ sym q.memory)
