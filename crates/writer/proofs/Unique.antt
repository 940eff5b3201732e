-- Any two results that meet the contract of a public function are equal, over that contract as the
-- toolchain reads it, and so is the buffer that they leave behind. Assumes nothing.
use mathlib.Core.Path.{◌≡◌, sym, ◌∙◌}
use mathlib.Core.Bool.{Bool}
use Prim.Native.Nat.{ℕ}
use borrow.Fn.Kinds.{ended_of}
use borrow.Fn.World.{ArgsD, ResD}
use contract.Lifetimes.{Lfts}
use denote.Triple.Clauses.{AtExit}
use Rattle.writer.specs.Refusals.{WriteAnswer}
use Rattle.writer.specs.declared.write_answer.WriteRefusal.{WriteRefusal}
use Rattle.writer.proofs.write_answer.WriteRefusal.code.Reads as refusal_code-reads
use Rattle.writer.proofs.write_answer.WriteRefusal.place.Reads as refusal_place-reads
use Rattle.writer.proofs.write_answer.code.Reads as code_Reads
use Rattle.writer.proofs.write_answer.place.Reads as place-reads
use Rattle.writer.proofs.write_answer.written.Reads as written-reads
use Rattle.writer.proofs.pieces.is_mask.Reads as is-mask-reads
use Rattle.writer.proofs.pieces.given_operands.Reads as given-operands-reads
use Rattle.writer.specs.contracts.param_words.params_from as params-from
use Rattle.writer.proofs.param_words.params_from.Kinds as params-from-kinds
use Rattle.writer.proofs.param_words.params_from.Reads as params-from-reads
use Rattle.writer.specs.contracts.writing.write_script as write-script
use Rattle.writer.proofs.writing.write_script.Kinds as write-script-kinds
use Rattle.writer.proofs.writing.write_script.Reads as write-script-reads

module _ (κs : Lfts 0) (a : WriteAnswer) (r r' : ℕ) where
  pub code-unique : code_Reads.Post κs (a, tt) r (a, tt) → code_Reads.Post κs (a, tt) r' (a, tt) → r ≡ r'
  code-unique p q = p ∙ sym q

  pub place-unique : place-reads.Post κs (a, tt) r (a, tt) → place-reads.Post κs (a, tt) r' (a, tt) → r ≡ r'
  place-unique p q = p ∙ sym q

  pub written-unique : written-reads.Post κs (a, tt) r (a, tt) → written-reads.Post κs (a, tt) r' (a, tt) → r ≡ r'
  written-unique p q = p ∙ sym q

module _ (κs : Lfts 0) (a : WriteRefusal) (r r' : ℕ) where
  pub refusal_code-unique : refusal_code-reads.Post κs (a, tt) r (a, tt) →
      refusal_code-reads.Post κs (a, tt) r' (a, tt) → r ≡ r'
  refusal_code-unique p q = p ∙ sym q

  pub refusal_place-unique : refusal_place-reads.Post κs (a, tt) r (a, tt) →
      refusal_place-reads.Post κs (a, tt) r' (a, tt) → r ≡ r'
  refusal_place-unique p q = p ∙ sym q

module _ (κs : Lfts 0) (k : ℕ) where
  pub is-mask-unique : (r r' : Bool) → is-mask-reads.Post κs (k, tt) r (k, tt) →
      is-mask-reads.Post κs (k, tt) r' (k, tt) → r ≡ r'
  is-mask-unique r r' p q = p ∙ sym q

  pub given-operands-unique : (r r' : ℕ) → given-operands-reads.Post κs (k, tt) r (k, tt) →
      given-operands-reads.Post κs (k, tt) r' (k, tt) → r ≡ r'
  given-operands-unique r r' p q = p.0 ∙ sym q.0

module _ (κs : Lfts 1) (a : ArgsD params-from.signature κs) (r r' : ResD params-from.signature κs)
    (x x' : AtExit (ended_of 1 params-from-kinds.ps params-from-kinds.r) κs) where
  pub params-from-unique : params-from-reads.Post κs a r x → params-from-reads.Post κs a r' x' → r ≡ r'
  params-from-unique p q = p ∙ sym q

module _ (κs : Lfts 3) (a : ArgsD write-script.signature κs) (r r' : ResD write-script.signature κs)
    (x x' : AtExit (ended_of 3 write-script-kinds.ps write-script-kinds.r) κs) where
  pub write-script-unique : write-script-reads.Post κs a r x → write-script-reads.Post κs a r' x' →
      (r ≡ r') × (x.1.1.1.1.0.now ≡ x'.1.1.1.1.0.now)
  write-script-unique p q = (p.answer ∙ sym q.answer, p.memory ∙ sym q.memory)
