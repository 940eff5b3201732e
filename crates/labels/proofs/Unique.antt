-- Any two results that meet the contract of a public function are equal, over that contract as the
-- toolchain reads it, and so is the output that they leave behind. Assumes nothing.
use mathlib.Core.Path.{◌≡◌, sym, ◌∙◌}
use Prim.Native.Nat.{ℕ}
use borrow.Fn.Kinds.{ended_of}
use borrow.Fn.World.{ArgsD, ResD}
use contract.Lifetimes.{Lfts}
use denote.Triple.Clauses.{AtExit}
use Rattle.labels.specs.Answers.{LabelAnswer}
use Rattle.labels.specs.declared.label_answer.LabelRefusal.{LabelRefusal}
use Rattle.labels.proofs.label_answer.LabelRefusal.code.Reads as refusal_code-reads
use Rattle.labels.proofs.label_answer.LabelRefusal.glyph.Reads as refusal_glyph-reads
use Rattle.labels.proofs.label_answer.LabelRefusal.place.Reads as refusal_place-reads
use Rattle.labels.proofs.label_answer.code.Reads as code_Reads
use Rattle.labels.proofs.label_answer.glyph.Reads as glyph-reads
use Rattle.labels.proofs.label_answer.place.Reads as place-reads
use Rattle.labels.proofs.label_answer.written.Reads as written-reads
use Rattle.labels.specs.contracts.labelling.run_labels as run-labels
use Rattle.labels.proofs.labelling.run_labels.Kinds as run-labels-kinds
use Rattle.labels.proofs.labelling.run_labels.Reads as run-labels-reads

module _ (κs : Lfts 0) (a : LabelAnswer) (r r' : ℕ) where
  pub code-unique : code_Reads.Post κs (a, tt) r (a, tt) → code_Reads.Post κs (a, tt) r' (a, tt) → r ≡ r'
  code-unique p q = p ∙ sym q

  pub glyph-unique : glyph-reads.Post κs (a, tt) r (a, tt) → glyph-reads.Post κs (a, tt) r' (a, tt) → r ≡ r'
  glyph-unique p q = p ∙ sym q

  pub place-unique : place-reads.Post κs (a, tt) r (a, tt) → place-reads.Post κs (a, tt) r' (a, tt) → r ≡ r'
  place-unique p q = p ∙ sym q

  pub written-unique : written-reads.Post κs (a, tt) r (a, tt) → written-reads.Post κs (a, tt) r' (a, tt) → r ≡ r'
  written-unique p q = p ∙ sym q

module _ (κs : Lfts 0) (a : LabelRefusal) (r r' : ℕ) where
  pub refusal_code-unique : refusal_code-reads.Post κs (a, tt) r (a, tt) →
      refusal_code-reads.Post κs (a, tt) r' (a, tt) → r ≡ r'
  refusal_code-unique p q = p ∙ sym q

  pub refusal_glyph-unique : refusal_glyph-reads.Post κs (a, tt) r (a, tt) →
      refusal_glyph-reads.Post κs (a, tt) r' (a, tt) → r ≡ r'
  refusal_glyph-unique p q = p ∙ sym q

  pub refusal_place-unique : refusal_place-reads.Post κs (a, tt) r (a, tt) →
      refusal_place-reads.Post κs (a, tt) r' (a, tt) → r ≡ r'
  refusal_place-unique p q = p ∙ sym q

module _ (κs : Lfts 4) (a : ArgsD run-labels.signature κs) (r r' : ResD run-labels.signature κs)
    (x x' : AtExit (ended_of 4 run-labels-kinds.ps run-labels-kinds.r) κs) where
  pub run-labels-unique : run-labels-reads.Post κs a r x → run-labels-reads.Post κs a r' x' →
      (r ≡ r') × (x.1.1.1.1.1.0.now ≡ x'.1.1.1.1.1.0.now)
  run-labels-unique p q = (p.answer ∙ sym q.answer, p.memory ∙ sym q.memory)
