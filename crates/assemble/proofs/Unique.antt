-- Any two outcomes that meet the contract of `answer_to` or `assembled` are equal, over that contract
-- as the toolchain reads it: the answer or the count, and every byte that was lent. Assumes nothing.
use mathlib.Core.Path.{◌≡◌, sym, ◌∙◌}
use borrow.Fn.Kinds.{ended_of}
use borrow.Fn.World.{ArgsD, ResD}
use contract.Lifetimes.{Lfts}
use denote.Triple.Clauses.{AtExit}
use Rattle.assemble.specs.contracts.asked.answer_to as answer-to
use Rattle.assemble.proofs.asked.answer_to.Kinds as answer-to-kinds
use Rattle.assemble.proofs.asked.answer_to.Reads as answer-to-reads
use Rattle.assemble.specs.contracts.assembled as assembled
use Rattle.assemble.proofs.assembled.Kinds as assembled-kinds
use Rattle.assemble.proofs.assembled.Reads as assembled-reads

module _ (κs : Lfts 2) (a : ArgsD answer-to.signature κs) (r r' : ResD answer-to.signature κs)
    (x x' : AtExit (ended_of 2 answer-to-kinds.ps answer-to-kinds.r) κs) where
  pub answer-to-unique : answer-to-reads.Post κs a r x → answer-to-reads.Post κs a r' x' →
      (r ≡ r') × (x.1.0.now ≡ x'.1.0.now)
  answer-to-unique p q = (p.answer ∙ sym q.answer, p.memory ∙ sym q.memory)

module _ (κs : Lfts 2) (a : ArgsD assembled.signature κs) (r r' : ResD assembled.signature κs)
    (x x' : AtExit (ended_of 2 assembled-kinds.ps assembled-kinds.r) κs) where
  pub assembled-unique : assembled-reads.Post κs a r x → assembled-reads.Post κs a r' x' →
      (r ≡ r') × (x.1.0.now ≡ x'.1.0.now)
  assembled-unique p q = (p.number ∙ sym q.number, p.memory ∙ sym q.memory)
