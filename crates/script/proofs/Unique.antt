-- Any two outcomes that meet the contract of `count_records` or of a public function are equal, over
-- that contract as the toolchain reads it: the result, and of `run_script` also every word of the
-- output. Assumes nothing.
use mathlib.Core.Path.{◌≡◌, sym, ◌∙◌}
use borrow.Fn.Kinds.{ended_of}
use borrow.Fn.World.{ArgsD, ResD}
use contract.Lifetimes.{Lfts}
use denote.Triple.Clauses.{AtExit}
use Rattle.words.proofs.Answers.{says_is}
use Rattle.script.specs.contracts.checking.check_script as check-script
use Rattle.script.proofs.checking.check_script.Kinds as check-script-kinds
use Rattle.script.proofs.checking.check_script.Reads as check-script-reads
use Rattle.script.specs.contracts.count.count_records as count-records
use Rattle.script.proofs.count.count_records.Kinds as count-records-kinds
use Rattle.script.proofs.count.count_records.Reads as count-records-reads
use Rattle.script.specs.contracts.maps.map_after as map-after
use Rattle.script.proofs.maps.map_after.Kinds as map-after-kinds
use Rattle.script.proofs.maps.map_after.Reads as map-after-reads
use Rattle.script.specs.contracts.whole.run_script as run-script
use Rattle.script.proofs.whole.run_script.Kinds as run-script-kinds
use Rattle.script.proofs.whole.run_script.Reads as run-script-reads

module _ (κs : Lfts 1) (a : ArgsD count-records.signature κs) (r r' : ResD count-records.signature κs)
    (x x' : AtExit (ended_of 1 count-records-kinds.ps count-records-kinds.r) κs) where
  pub count-records-unique : count-records-reads.Post κs a r x → count-records-reads.Post κs a r' x' → r ≡ r'
  count-records-unique p q = p ∙ sym q

module _ (κs : Lfts 2) (a : ArgsD run-script.signature κs) (r r' : ResD run-script.signature κs)
    (x x' : AtExit (ended_of 2 run-script-kinds.ps run-script-kinds.r) κs) where
  pub run-script-unique : run-script-reads.Post κs a r x → run-script-reads.Post κs a r' x' →
      (r ≡ r') × (x.1.0.now ≡ x'.1.0.now)
  run-script-unique p q = (says_is p.answer ∙ sym (says_is q.answer), p.memory ∙ sym q.memory)

module _ (κs : Lfts 1) (a : ArgsD check-script.signature κs) (r r' : ResD check-script.signature κs)
    (x x' : AtExit (ended_of 1 check-script-kinds.ps check-script-kinds.r) κs) where
  pub check-script-unique : check-script-reads.Post κs a r x → check-script-reads.Post κs a r' x' → r ≡ r'
  check-script-unique p q = p ∙ sym q

module _ (κs : Lfts 1) (a : ArgsD map-after.signature κs) (r r' : ResD map-after.signature κs)
    (x x' : AtExit (ended_of 1 map-after-kinds.ps map-after-kinds.r) κs) where
  pub map-after-unique : map-after-reads.Post κs a r x → map-after-reads.Post κs a r' x' → r ≡ r'
  map-after-unique p q = p ∙ sym q
