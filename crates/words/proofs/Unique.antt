-- Any two results that meet the contract of a public function are equal, over that contract as the
-- toolchain reads it, and so is what they leave behind. Assumes nothing.
use mathlib.Core.Path.{◌≡◌, sym, ◌∙◌}
use Prim.Native.Nat.{ℕ}
use borrow.Fn.Kinds.{ended_of}
use borrow.Fn.World.{ArgsD, ResD}
use contract.Lifetimes.{Lfts}
use denote.Triple.Clauses.{AtExit}
use Rattle.words.proofs.answer.Refusal.code.Reads as refusal_code-reads
use Rattle.words.proofs.answer.Refusal.place.Reads as refusal_place-reads
use Rattle.words.proofs.answer.code.Reads as code_Reads
use Rattle.words.proofs.answer.place.Reads as place-reads
use Rattle.words.specs.contracts.read.natural as natural
use Rattle.words.proofs.read.natural.Kinds as natural-kinds
use Rattle.words.proofs.read.natural.Reads as natural-reads
use Rattle.words.specs.contracts.read.raw as raw
use Rattle.words.proofs.read.raw.Kinds as raw-kinds
use Rattle.words.proofs.read.raw.Reads as raw-reads
use Rattle.words.specs.contracts.read.read_words as read
use Rattle.words.proofs.read.read_words.Kinds as read-kinds
use Rattle.words.proofs.read.read_words.Reads as read-reads
use Rattle.words.specs.contracts.read.word as word
use Rattle.words.proofs.read.word.Kinds as word-kinds
use Rattle.words.proofs.read.word.Reads as word-reads
use Rattle.words.specs.contracts.storing.copy_bytes as copy
use Rattle.words.proofs.storing.copy_bytes.Kinds as copy-kinds
use Rattle.words.proofs.storing.copy_bytes.Reads as copy-reads
use Rattle.words.specs.contracts.storing.store as store
use Rattle.words.proofs.storing.store.Kinds as store-kinds
use Rattle.words.proofs.storing.store.Reads as store-reads
use Rattle.words.specs.contracts.storing.store_words as words
use Rattle.words.proofs.storing.store_words.Kinds as words-kinds
use Rattle.words.proofs.storing.store_words.Reads as words-reads
use Rattle.words.specs.contracts.read.number as number
use Rattle.words.proofs.read.number.Kinds as number-kinds
use Rattle.words.proofs.read.number.Reads as number-reads
use Rattle.words.specs.Answers.{Answer}
use Rattle.words.specs.declared.answer.Refusal.{Refusal}

module _ (κs : Lfts 0) (a : Answer) (r r' : ℕ) where
  pub code-unique : code_Reads.Post κs (a, tt) r (a, tt) → code_Reads.Post κs (a, tt) r' (a, tt) → r ≡ r'
  code-unique p q = p ∙ sym q

  pub place-unique : place-reads.Post κs (a, tt) r (a, tt) → place-reads.Post κs (a, tt) r' (a, tt) → r ≡ r'
  place-unique p q = p ∙ sym q

module _ (κs : Lfts 0) (a : Refusal) (r r' : ℕ) where
  pub refusal_code-unique : refusal_code-reads.Post κs (a, tt) r (a, tt) →
      refusal_code-reads.Post κs (a, tt) r' (a, tt) → r ≡ r'
  refusal_code-unique p q = p ∙ sym q

  pub refusal_place-unique : refusal_place-reads.Post κs (a, tt) r (a, tt) →
      refusal_place-reads.Post κs (a, tt) r' (a, tt) → r ≡ r'
  refusal_place-unique p q = p ∙ sym q

module _ (κs : Lfts 1) (a : ArgsD natural.signature κs) (r r' : ResD natural.signature κs)
    (x x' : AtExit (ended_of 1 natural-kinds.ps natural-kinds.r) κs) where
  pub natural-unique : natural-reads.Post κs a r x → natural-reads.Post κs a r' x' → r ≡ r'
  natural-unique p q = p.0 ∙ sym q.0

module _ (κs : Lfts 1) (a : ArgsD raw.signature κs) (r r' : ResD raw.signature κs)
    (x x' : AtExit (ended_of 1 raw-kinds.ps raw-kinds.r) κs) where
  pub raw-unique : raw-reads.Post κs a r x → raw-reads.Post κs a r' x' → r ≡ r'
  raw-unique p q = p ∙ sym q

module _ (κs : Lfts 1) (a : ArgsD word.signature κs) (r r' : ResD word.signature κs)
    (x x' : AtExit (ended_of 1 word-kinds.ps word-kinds.r) κs) where
  pub word-unique : word-reads.Post κs a r x → word-reads.Post κs a r' x' → r ≡ r'
  word-unique p q = p ∙ sym q

module _ (κs : Lfts 1) (a : ArgsD number.signature κs) (r r' : ResD number.signature κs)
    (x x' : AtExit (ended_of 1 number-kinds.ps number-kinds.r) κs) where
  pub number-unique : number-reads.Post κs a r x → number-reads.Post κs a r' x' → r ≡ r'
  number-unique p q = p ∙ sym q

module _ (κs : Lfts 1) (a : ArgsD store.signature κs) (r r' : ResD store.signature κs)
    (x x' : AtExit (ended_of 1 store-kinds.ps store-kinds.r) κs) where
  pub store-unique : store-reads.Post κs a r x → store-reads.Post κs a r' x' → x.0.now ≡ x'.0.now
  store-unique p q = p ∙ sym q

module _ (κs : Lfts 2) (a : ArgsD words.signature κs) (r r' : ResD words.signature κs)
    (x x' : AtExit (ended_of 2 words-kinds.ps words-kinds.r) κs) where
  pub store-words-unique : words-reads.Post κs a r x → words-reads.Post κs a r' x' → x.0.now ≡ x'.0.now
  store-words-unique p q = p ∙ sym q

module _ (κs : Lfts 2) (a : ArgsD copy.signature κs) (r r' : ResD copy.signature κs)
    (x x' : AtExit (ended_of 2 copy-kinds.ps copy-kinds.r) κs) where
  pub copy-bytes-unique : copy-reads.Post κs a r x → copy-reads.Post κs a r' x' → x.1.0.now ≡ x'.1.0.now
  copy-bytes-unique p q = p ∙ sym q

module _ (κs : Lfts 2) (a : ArgsD read.signature κs) (r r' : ResD read.signature κs)
    (x x' : AtExit (ended_of 2 read-kinds.ps read-kinds.r) κs) where
  pub read-words-unique : read-reads.Post κs a r x → read-reads.Post κs a r' x' → x.1.1.0.now ≡ x'.1.1.0.now
  read-words-unique p q = p ∙ sym q
