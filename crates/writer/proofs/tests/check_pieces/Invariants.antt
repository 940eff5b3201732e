-- `check_pieces` gives the first fault among the commands: the tests from this word on, with the
-- bytes not yet taken, give the answer of all. The measure is the words that are left. Assumes
-- nothing.
use Rattle.std.proofs.Common.{◌≡◌, ◌-◌, ◌≤◌, length, map, Ok}
use Rattle.fixed.specs.Integers.{bits_of}
use Rattle.words.specs.Rows.{first_or}
use Rattle.writer.specs.ToWrite.{pieces_in}
use Rattle.writer.specs.Refusals.{piece_rows}
use Rattle.writer.proofs.PieceFaults.{found}
use Rattle.writer.proofs.tests.check_pieces.Given as goal

abbrev pub invariant-loop-at : goal.invariant-loop-at
invariant-loop-at l =
    record {
      answered : first_or (Ok 0) (piece_rows 0 l.fn.bytes (pieces_in l.commands)) ≡
          found (map bits_of l.commands) l.at l.left;
      inside : l.at ≤ length l.commands;
    }

abbrev pub decreases-loop-at : goal.decreases-loop-at
decreases-loop-at l = length l.commands - l.at
