-- Any two results that meet the contract of a public function are equal, over that contract as the
-- toolchain reads it. Assumes nothing.
use mathlib.Core.Path.{◌≡◌, sym, ◌∙◌}
use borrow.Fn.Kinds.{ended_of}
use borrow.Fn.World.{ArgsD, ResD}
use contract.Lifetimes.{Lfts}
use denote.Triple.Clauses.{AtExit}
use Rattle.words.proofs.Answers.{says_is}
use Rattle.header.specs.contracts.checks.check_header as check-header
use Rattle.header.proofs.checks.check_header.Kinds as check-header-kinds
use Rattle.header.proofs.checks.check_header.Reads as check-header-reads
use Rattle.header.specs.contracts.checks.check_params as check-params
use Rattle.header.proofs.checks.check_params.Kinds as check-params-kinds
use Rattle.header.proofs.checks.check_params.Reads as check-params-reads
use Rattle.header.specs.contracts.params.read_params as read-params
use Rattle.header.proofs.params.read_params.Kinds as read-params-kinds
use Rattle.header.proofs.params.read_params.Reads as read-params-reads

module _ (κs : Lfts 1) (a : ArgsD check-header.signature κs) (r r' : ResD check-header.signature κs)
    (x x' : AtExit (ended_of 1 check-header-kinds.ps check-header-kinds.r) κs) where
  pub check-header-unique : check-header-reads.Post κs a r x → check-header-reads.Post κs a r' x' → r ≡ r'
  check-header-unique p q = says_is p ∙ sym (says_is q)

module _ (κs : Lfts 1) (a : ArgsD check-params.signature κs) (r r' : ResD check-params.signature κs)
    (x x' : AtExit (ended_of 1 check-params-kinds.ps check-params-kinds.r) κs) where
  pub check-params-unique : check-params-reads.Post κs a r x → check-params-reads.Post κs a r' x' → r ≡ r'
  check-params-unique p q = says_is p ∙ sym (says_is q)

module _ (κs : Lfts 1) (a : ArgsD read-params.signature κs) (r r' : ResD read-params.signature κs)
    (x x' : AtExit (ended_of 1 read-params-kinds.ps read-params-kinds.r) κs) where
  pub read-params-unique : read-params-reads.Post κs a r x → read-params-reads.Post κs a r' x' → r ≡ r'
  read-params-unique p q = p ∙ sym q
