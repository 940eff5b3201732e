-- Any two outcomes that meet the contract of a public function are equal, over that contract as the
-- toolchain reads it, and so is the list that they leave behind. Assumes nothing.
use mathlib.Core.Path.{◌≡◌, sym, ◌∙◌}
use Prim.Native.Nat.{ℕ}
use borrow.Fn.Kinds.{ended_of}
use borrow.Fn.World.{ArgsD, ResD}
use contract.Lifetimes.{Lfts}
use denote.Triple.Clauses.{AtExit}
use lib.IntN.{ℤ}
use Rattle.stems.specs.declared.edge.Hint.{Hint}
use Rattle.stems.specs.declared.edge.Kind.{Kind}
use Rattle.hintmap.specs.declared.map.HintMap.{HintMap}
use Rattle.listing.specs.declared.record.EdgeRecord.{EdgeRecord}
use Rattle.listing.specs.declared.summary.Summary.{Summary}
use Rattle.listing.specs.Listing.{ListAnswer}
use Rattle.listing.proofs.record.EdgeRecord.of.Reads as of-reads
use Rattle.listing.proofs.summary.Summary.none.Reads as none_reads
use Rattle.listing.proofs.as_words.kind_number.Reads as kind-number-reads
use Rattle.listing.proofs.summary.summarize.Reads as summarize-reads
use Rattle.listing.proofs.answer.code.Reads as code_Reads
use Rattle.listing.proofs.answer.list_summary.Reads as summary-reads
use Rattle.listing.specs.contracts.list.list_edges as list-edges
use Rattle.listing.specs.contracts.as_words.list_words as list-words
use Rattle.listing.proofs.list.list_edges.Kinds as list-edges-kinds
use Rattle.listing.proofs.list.list_edges.Reads as list-edges-reads
use Rattle.listing.proofs.as_words.list_words.Kinds as list-words-kinds
use Rattle.listing.proofs.as_words.list_words.Reads as list-words-reads

module _ (κs : Lfts 0) where
  pub of-unique : (e : Hint) (r r' : EdgeRecord) → of-reads.Post κs (e, tt) r (e, tt) →
      of-reads.Post κs (e, tt) r' (e, tt) → r ≡ r'
  of-unique e r r' p q = p ∙ sym q

  pub none-unique : (r r' : Summary) → none_reads.Post κs tt r tt → none_reads.Post κs tt r' tt → r ≡ r'
  none-unique r r' p q = p ∙ sym q

  pub kind-number-unique : (k : Kind) (r r' : ℤ) → kind-number-reads.Post κs (k, tt) r (k, tt) →
      kind-number-reads.Post κs (k, tt) r' (k, tt) → r ≡ r'
  kind-number-unique k r r' p q = p ∙ sym q

  pub summarize-unique : (m : HintMap) (r r' : Summary) → summarize-reads.Post κs (m, tt) r (m, tt) →
      summarize-reads.Post κs (m, tt) r' (m, tt) → r ≡ r'
  summarize-unique m r r' p q = p ∙ sym q

  module _ (a : ListAnswer) where
    pub code-unique : (r r' : ℕ) → code_Reads.Post κs (a, tt) r (a, tt) → code_Reads.Post κs (a, tt) r' (a, tt) → r ≡ r'
    code-unique r r' p q = p ∙ sym q

    pub summary-unique : (r r' : Summary) → summary-reads.Post κs (a, tt) r (a, tt) →
        summary-reads.Post κs (a, tt) r' (a, tt) → r ≡ r'
    summary-unique r r' p q = p ∙ sym q

module _ (κs : Lfts 1) (a : ArgsD list-words.signature κs) (r r' : ResD list-words.signature κs)
    (x x' : AtExit (ended_of 1 list-words-kinds.ps list-words-kinds.r) κs) where
  pub list-words-unique : list-words-reads.Post κs a r x → list-words-reads.Post κs a r' x' →
      (r ≡ r') × (x.1.0.now ≡ x'.1.0.now)
  list-words-unique p q = (p.answer ∙ sym q.answer, p.memory ∙ sym q.memory)

module _ (κs : Lfts 1) (a : ArgsD list-edges.signature κs) (r r' : ResD list-edges.signature κs)
    (x x' : AtExit (ended_of 1 list-edges-kinds.ps list-edges-kinds.r) κs) where
  pub list-edges-unique : list-edges-reads.Post κs a r x → list-edges-reads.Post κs a r' x' →
      (r ≡ r') × (x.1.0.now ≡ x'.1.0.now)
  list-edges-unique p q = (p.answer ∙ sym q.answer, p.memory ∙ sym q.memory)
