-- Any two results that meet the contract of a function that determines its answer are equal, over
-- that contract as the toolchain reads it. Assumes nothing.
use Rattle.std.proofs.Common.{◌≡◌, ℤ, sym, ◌∙◌}
use borrow.Fn.Kinds.{ended_of}
use borrow.Fn.World.{ArgsD, ResD}
use contract.Lifetimes.{Lfts}
use denote.Triple.Clauses.{AtExit}
use Rattle.stems.specs.declared.edge.Kind.{Kind}
use Rattle.test_tables.specs.contracts.row.number as number
use Rattle.test_tables.proofs.row.number.Kinds as number-kinds
use Rattle.test_tables.proofs.row.number.Reads as number-reads
use Rattle.test_tables.specs.contracts.row.flag as flag
use Rattle.test_tables.proofs.row.flag.Kinds as flag-kinds
use Rattle.test_tables.proofs.row.flag.Reads as flag-reads
use Rattle.test_tables.specs.contracts.row.fixed as fixed
use Rattle.test_tables.proofs.row.fixed.Kinds as fixed-kinds
use Rattle.test_tables.proofs.row.fixed.Reads as fixed-Reads
use Rattle.test_tables.specs.contracts.row.count as count
use Rattle.test_tables.proofs.row.count.Kinds as count-kinds
use Rattle.test_tables.proofs.row.count.Reads as count-reads
use Rattle.test_tables.specs.contracts.given.params as params
use Rattle.test_tables.proofs.given.params.Kinds as params-kinds
use Rattle.test_tables.proofs.given.params.Reads as params-reads
use Rattle.test_tables.specs.contracts.given.after_pairs as after-pairs
use Rattle.test_tables.proofs.given.after_pairs.Kinds as after-pairs-kinds
use Rattle.test_tables.proofs.given.after_pairs.Reads as after-pairs-reads
use Rattle.test_tables.specs.contracts.given.state as state
use Rattle.test_tables.proofs.given.state.Kinds as state-kinds
use Rattle.test_tables.proofs.given.state.Reads as state-reads
use Rattle.test_tables.specs.contracts.given.mask as mask
use Rattle.test_tables.proofs.given.mask.Kinds as mask-kinds
use Rattle.test_tables.proofs.given.mask.Reads as mask-reads
use Rattle.test_tables.proofs.given.kind_number.Reads as kind-number-reads
use Rattle.test_tables.specs.contracts.differing.first_word as first_word
use Rattle.test_tables.proofs.differing.first_word.Kinds as first-word-kinds
use Rattle.test_tables.proofs.differing.first_word.Reads as first-word-reads
use Rattle.test_tables.specs.contracts.verdict.judge as judge
use Rattle.test_tables.proofs.verdict.judge.Kinds as judge-kinds
use Rattle.test_tables.proofs.verdict.judge.Reads as judge-reads

module _ (κs : Lfts 1) (a : ArgsD number.signature κs) (r r' : ResD number.signature κs)
    (x x' : AtExit (ended_of 1 number-kinds.ps number-kinds.r) κs) where
  pub number-unique : number-reads.Post κs a r x → number-reads.Post κs a r' x' → r ≡ r'
  number-unique p q = p ∙ sym q

module _ (κs : Lfts 1) (a : ArgsD flag.signature κs) (r r' : ResD flag.signature κs)
    (x x' : AtExit (ended_of 1 flag-kinds.ps flag-kinds.r) κs) where
  pub flag-unique : flag-reads.Post κs a r x → flag-reads.Post κs a r' x' → r ≡ r'
  flag-unique p q = p ∙ sym q

module _ (κs : Lfts 1) (a : ArgsD fixed.signature κs) (r r' : ResD fixed.signature κs)
    (x x' : AtExit (ended_of 1 fixed-kinds.ps fixed-kinds.r) κs) where
  pub fixed-unique : fixed-Reads.Post κs a r x → fixed-Reads.Post κs a r' x' → r ≡ r'
  fixed-unique p q = p ∙ sym q

module _ (κs : Lfts 1) (a : ArgsD count.signature κs) (r r' : ResD count.signature κs)
    (x x' : AtExit (ended_of 1 count-kinds.ps count-kinds.r) κs) where
  pub count-unique : count-reads.Post κs a r x → count-reads.Post κs a r' x' → r ≡ r'
  count-unique p q = p ∙ sym q

module _ (κs : Lfts 1) (a : ArgsD params.signature κs) (r r' : ResD params.signature κs)
    (x x' : AtExit (ended_of 1 params-kinds.ps params-kinds.r) κs) where
  pub params-unique : params-reads.Post κs a r x → params-reads.Post κs a r' x' → r ≡ r'
  params-unique p q = p ∙ sym q

module _ (κs : Lfts 1) (a : ArgsD after-pairs.signature κs) (r r' : ResD after-pairs.signature κs)
    (x x' : AtExit (ended_of 1 after-pairs-kinds.ps after-pairs-kinds.r) κs) where
  pub after-pairs-unique : after-pairs-reads.Post κs a r x → after-pairs-reads.Post κs a r' x' → r ≡ r'
  after-pairs-unique p q = p ∙ sym q

module _ (κs : Lfts 1) (a : ArgsD state.signature κs) (r r' : ResD state.signature κs)
    (x x' : AtExit (ended_of 1 state-kinds.ps state-kinds.r) κs) where
  pub state-unique : state-reads.Post κs a r x → state-reads.Post κs a r' x' → r ≡ r'
  state-unique p q = p ∙ sym q

module _ (κs : Lfts 1) (a : ArgsD mask.signature κs) (r r' : ResD mask.signature κs)
    (x x' : AtExit (ended_of 1 mask-kinds.ps mask-kinds.r) κs) where
  pub mask-unique : mask-reads.Post κs a r x → mask-reads.Post κs a r' x' → r ≡ r'
  mask-unique p q = p ∙ sym q

pub kind-number-unique : (κs : Lfts 0) (k : Kind) (r r' : ℤ) → kind-number-reads.Post κs (k, tt) r (k, tt) →
    kind-number-reads.Post κs (k, tt) r' (k, tt) → r ≡ r'
kind-number-unique κs k r r' p q = p ∙ sym q

module _ (κs : Lfts 2) (a : ArgsD first_word.signature κs) (r r' : ResD first_word.signature κs)
    (x x' : AtExit (ended_of 2 first-word-kinds.ps first-word-kinds.r) κs) where
  pub first-word-unique : first-word-reads.Post κs a r x → first-word-reads.Post κs a r' x' → r ≡ r'
  first-word-unique p q = p ∙ sym q

module _ (κs : Lfts 2) (a : ArgsD judge.signature κs) (r r' : ResD judge.signature κs)
    (x x' : AtExit (ended_of 2 judge-kinds.ps judge-kinds.r) κs) where
  pub judge-unique : judge-reads.Post κs a r x → judge-reads.Post κs a r' x' → r ≡ r'
  judge-unique p q = p ∙ sym q
