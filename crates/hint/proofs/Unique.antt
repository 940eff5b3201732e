-- Any two outcomes that meet the contract of `result_words`, `answered` or `answer_to` are equal,
-- over that contract as the toolchain reads it: the count, and every byte that was lent. Assumes
-- nothing.
use mathlib.Core.Path.{◌≡◌, sym, ◌∙◌}
use borrow.Fn.Kinds.{ended_of}
use borrow.Fn.World.{ArgsD, ResD}
use contract.Lifetimes.{Lfts}
use denote.Triple.Clauses.{AtExit}
use Rattle.hint.specs.contracts.encode.result_words as result_words
use Rattle.hint.proofs.encode.result_words.Kinds as result-words-kinds
use Rattle.hint.proofs.encode.result_words.Reads as result-words-reads
use Rattle.hint.specs.contracts.encode.answered as answered
use Rattle.hint.proofs.encode.answered.Kinds as answered-kinds
use Rattle.hint.proofs.encode.answered.Reads as answered-reads
use Rattle.hint.specs.contracts.answer_to as answer-to
use Rattle.hint.proofs.answer_to.Kinds as answer-to-kinds
use Rattle.hint.proofs.answer_to.Reads as answer-to-reads

module _ (κs : Lfts 1) (a : ArgsD result_words.signature κs) (r r' : ResD result_words.signature κs)
    (x x' : AtExit (ended_of 1 result-words-kinds.ps result-words-kinds.r) κs) where
  pub result-words-unique : result-words-reads.Post κs a r x → result-words-reads.Post κs a r' x' → r ≡ r'
  result-words-unique p q = p ∙ sym q

module _ (κs : Lfts 2) (a : ArgsD answered.signature κs) (r r' : ResD answered.signature κs)
    (x x' : AtExit (ended_of 2 answered-kinds.ps answered-kinds.r) κs) where
  pub answered-unique : answered-reads.Post κs a r x → answered-reads.Post κs a r' x' →
      (r ≡ r') × (x.1.1.0.now ≡ x'.1.1.0.now)
  answered-unique p q = (p.number ∙ sym q.number, p.memory ∙ sym q.memory)

module _ (κs : Lfts 2) (a : ArgsD answer-to.signature κs) (r r' : ResD answer-to.signature κs)
    (x x' : AtExit (ended_of 2 answer-to-kinds.ps answer-to-kinds.r) κs) where
  pub answer-to-unique : answer-to-reads.Post κs a r x → answer-to-reads.Post κs a r' x' →
      (r ≡ r') × (x.1.0.now ≡ x'.1.0.now)
  answer-to-unique p q = (p.number ∙ sym q.number, p.memory ∙ sym q.memory)
