-- Any two outcomes that meet the contract of `read_back` are equal, over that contract as the
-- toolchain reads it: what is said, and every word and byte of both buffers. Assumes nothing.
use mathlib.Core.Path.{◌≡◌, sym, ◌∙◌}
use borrow.Fn.Kinds.{ended_of}
use borrow.Fn.World.{ArgsD, ResD}
use contract.Lifetimes.{Lfts}
use denote.Triple.Clauses.{AtExit}
use Rattle.readback.specs.contracts.reading_back.read_back as read_back
use Rattle.readback.proofs.reading_back.read_back.Kinds as read-back-kinds
use Rattle.readback.proofs.reading_back.read_back.Reads as read-back-reads

module _ (κs : Lfts 3) (a : ArgsD read_back.signature κs) (r r' : ResD read_back.signature κs)
    (x x' : AtExit (ended_of 3 read-back-kinds.ps read-back-kinds.r) κs) where
  pub read-back-unique : read-back-reads.Post κs a r x → read-back-reads.Post κs a r' x' →
      (r ≡ r') × ((x.1.0.now ≡ x'.1.0.now) × (x.1.1.0.now ≡ x'.1.1.0.now))
  read-back-unique p q =
      (p.answer ∙ sym q.answer, (p.words ∙ sym q.words, p.bytes ∙ sym q.bytes))
