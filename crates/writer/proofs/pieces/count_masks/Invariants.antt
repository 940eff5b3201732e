-- `count_masks` counts the masks among the pieces: those before this word and those from it on are
-- all. The measure is the words that are left. Assumes nothing.
use Rattle.std.proofs.Common.{◌≡◌, ◌+◌, ◌-◌, ◌≤◌, length, drop, map}
use Rattle.fixed.specs.Integers.{bits_of}
use Rattle.writer.specs.Pieces.{pieces_of, given_operands, masks_in}
use Rattle.writer.specs.ToWrite.{pieces_in}
use Rattle.writer.proofs.pieces.count_masks.Given as goal

abbrev pub invariant-loop-at : goal.invariant-loop-at
invariant-loop-at l =
    record {
      counted :
          masks_in (pieces_in l.commands) ≡
          l.count + masks_in (pieces_of given_operands (drop l.at (map bits_of l.commands)));
      below : l.count ≤ l.at;
      few : l.count ≤ length l.commands;
    }

abbrev pub decreases-loop-at : goal.decreases-loop-at
decreases-loop-at l = length l.commands - l.at
