-- Any two outcomes that meet the contract of `run`, of `run_given`, of `hints_after` or of
-- `KeptLists::new` are equal, over that contract as the toolchain reads it: the result, and of the
-- runs every word of the output. Assumes nothing.
use mathlib.Core.Path.{◌≡◌, sym, ap, ◌∙◌}
use Prim.Native.Nat.{ℕ}
use borrow.Fn.Kinds.{ended_of}
use borrow.Fn.World.{ArgsD, ResD}
use contract.Lifetimes.{Lfts}
use denote.Triple.Clauses.{AtExit}
use Rattle.words.proofs.Answers.{says_is}
use Rattle.run.specs.declared.kept.KeptLists.{KeptLists}
use Rattle.run.specs.declared.running.Ran.{Ran}
use Rattle.run.proofs.kept.KeptLists.new.Reads as new-reads
use Rattle.run.specs.contracts.hinting.hints_after as hints-after
use Rattle.run.proofs.hinting.hints_after.Kinds as hints-after-kinds
use Rattle.run.proofs.hinting.hints_after.Reads as hints-after-reads
use Rattle.run.specs.contracts.running.run as run
use Rattle.run.proofs.running.run.Kinds as run-kinds
use Rattle.run.proofs.running.run.Reads as run-reads
use Rattle.run.specs.contracts.running.run_given as run-given
use Rattle.run.proofs.running.run_given.Kinds as run-given-kinds
use Rattle.run.proofs.running.run_given.Reads as run-given-reads
use Rattle.words.specs.Answers.{Answer}

ran : {a b : Ran} → a.answer ≡ b.answer → a.words ≡ b.words → a ≡ b
ran {a} {b} e w =
    ap (λ (x : Answer). record { answer = x; words = a.words }) e ∙
    ap (λ (k : ℕ). record { answer = b.answer; words = k }) w

module _ (κs : Lfts 3) (a : ArgsD run.signature κs) (r r' : ResD run.signature κs)
    (x x' : AtExit (ended_of 3 run-kinds.ps run-kinds.r) κs) where
  pub run-unique : run-reads.Post κs a r x → run-reads.Post κs a r' x' →
      (r ≡ r') × (x.1.1.1.1.1.1.0.now ≡ x'.1.1.1.1.1.1.0.now)
  run-unique p q =
      (ran (says_is p.answer ∙ sym (says_is q.answer)) (p.words ∙ sym q.words), p.memory ∙ sym q.memory)

module _ (κs : Lfts 5) (a : ArgsD run-given.signature κs) (r r' : ResD run-given.signature κs)
    (x x' : AtExit (ended_of 5 run-given-kinds.ps run-given-kinds.r) κs) where
  pub run-given-unique : run-given-reads.Post κs a r x → run-given-reads.Post κs a r' x' →
      (r ≡ r') × (x.1.1.1.1.1.0.now ≡ x'.1.1.1.1.1.0.now)
  run-given-unique p q =
      (ran (says_is p.answer ∙ sym (says_is q.answer)) (p.words ∙ sym q.words), p.memory ∙ sym q.memory)

module _ (κs : Lfts 1) (a : ArgsD hints-after.signature κs) (r r' : ResD hints-after.signature κs)
    (x x' : AtExit (ended_of 1 hints-after-kinds.ps hints-after-kinds.r) κs) where
  pub hints-after-unique : hints-after-reads.Post κs a r x → hints-after-reads.Post κs a r' x' → r ≡ r'
  hints-after-unique p q = p ∙ sym q

module _ (κs : Lfts 0) (r r' : KeptLists) where
  pub new-unique : new-reads.Post κs tt r tt → new-reads.Post κs tt r' tt → r ≡ r'
  new-unique p q = p ∙ sym q
