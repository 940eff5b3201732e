-- Any two results that meet the contract of a public function are equal, over that contract as the
-- toolchain reads it. Assumes nothing.
use mathlib.Core.Path.{◌≡◌, sym, ◌∙◌}
use Prim.Native.Nat.{ℕ}
use borrow.Fn.Kinds.{ended_of}
use borrow.Fn.World.{ArgsD, ResD}
use contract.Lifetimes.{Lfts}
use denote.Triple.Clauses.{AtExit}
use Rattle.words.proofs.Answers.{says_is}
use Rattle.commands.specs.declared.reading.Command.{Command}
use Rattle.commands.specs.contracts.reading.read_by as read_by_lem
use Rattle.commands.proofs.reading.read_by.Kinds as read-by-kinds
use Rattle.commands.proofs.reading.read_by.Reads as read-by-reads
use Rattle.commands.specs.contracts.reading.read_command as read-command
use Rattle.commands.proofs.reading.read_command.Kinds as read-command-kinds
use Rattle.commands.proofs.reading.read_command.Reads as read-command-reads
use Rattle.commands.proofs.reading.operands.Reads as operands-reads
use Rattle.commands.specs.contracts.reading.read_given as read-given
use Rattle.commands.proofs.reading.read_given.Kinds as read-given-kinds
use Rattle.commands.proofs.reading.read_given.Reads as read-given-reads
use Rattle.commands.proofs.faults.fault_in.Reads as fault-in-reads
use Rattle.commands.specs.contracts.faults.check_commands as check-commands
use Rattle.commands.proofs.faults.check_commands.Kinds as check-commands-kinds
use Rattle.commands.proofs.faults.check_commands.Reads as check-commands-reads
use Rattle.words.specs.Answers.{Answer}

module _ (κs : Lfts 1) (a : ArgsD read_by_lem.signature κs) (r r' : ResD read_by_lem.signature κs)
    (x x' : AtExit (ended_of 1 read-by-kinds.ps read-by-kinds.r) κs) where
  pub read-by-unique : read-by-reads.Post κs a r x → read-by-reads.Post κs a r' x' → r ≡ r'
  read-by-unique p q = p ∙ sym q

module _ (κs : Lfts 1) (a : ArgsD read-command.signature κs) (r r' : ResD read-command.signature κs)
    (x x' : AtExit (ended_of 1 read-command-kinds.ps read-command-kinds.r) κs) where
  pub read-command-unique : read-command-reads.Post κs a r x → read-command-reads.Post κs a r' x' → r ≡ r'
  read-command-unique p q = p ∙ sym q

module _ (κs : Lfts 1) (a : ArgsD read-given.signature κs) (r r' : ResD read-given.signature κs)
    (x x' : AtExit (ended_of 1 read-given-kinds.ps read-given-kinds.r) κs) where
  pub read-given-unique : read-given-reads.Post κs a r x → read-given-reads.Post κs a r' x' → r ≡ r'
  read-given-unique p q = p ∙ sym q

module _ (κs : Lfts 1) (a : ArgsD check-commands.signature κs) (r r' : ResD check-commands.signature κs)
    (x x' : AtExit (ended_of 1 check-commands-kinds.ps check-commands-kinds.r) κs) where
  pub check-commands-unique : check-commands-reads.Post κs a r x → check-commands-reads.Post κs a r' x' → r ≡ r'
  check-commands-unique p q = says_is p ∙ sym (says_is q)

module _ (κs : Lfts 0) (k r r' : ℕ) where
  pub operands-unique : operands-reads.Post κs (k, tt) r (k, tt) → operands-reads.Post κs (k, tt) r' (k, tt) → r ≡ r'
  operands-unique p q = p.0 ∙ sym q.0

module _ (κs : Lfts 0) (c : Command) (bytes place : ℕ) (r r' : Answer) where
  pub fault-in-unique : fault-in-reads.Post κs (c, (bytes, (place, tt))) r (c, (bytes, (place, tt))) →
      fault-in-reads.Post κs (c, (bytes, (place, tt))) r' (c, (bytes, (place, tt))) → r ≡ r'
  fault-in-unique p q = p ∙ sym q
