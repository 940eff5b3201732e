-- `check_part`: the tests of the commands from this word on give the answer of all. The measure is the
-- words that are left. Assumes nothing.
use Rattle.std.proofs.Common.{◌-◌, ◌≡◌}
use Rattle.words.specs.Words.{raw_at}
use Rattle.words.specs.Answers.{first_of}
use Rattle.commands.specs.Commands.{commands_from, commands_of}
use Rattle.commands.specs.Faults.{command_rows}
use Rattle.commands.proofs.faults.check_part.Given as goal

abbrev pub invariant-loop-at : goal.invariant-loop-at
invariant-loop-at l =
    first_of (command_rows l.bytes (commands_of l.first (raw_at l.part) l.n)) ≡
    first_of (command_rows l.bytes (commands_from (l.n - l.at) l.first (raw_at l.part) l.n l.at))

abbrev pub decreases-loop-at : goal.decreases-loop-at
decreases-loop-at l = l.n - l.at
