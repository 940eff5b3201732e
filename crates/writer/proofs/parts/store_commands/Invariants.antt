-- `store_commands` stores the pieces one behind the other: what is left, laid behind what is stored,
-- gives the whole, has no fault and has room. The measure is the words that are left. Assumes nothing.
use Rattle.std.proofs.Common.{◌≡◌, ◌+◌, ◌-◌, ◌*◌, ◌≤◌, length, map}
use Rattle.fixed.specs.Integers.{bits_of}
use Rattle.words.specs.Bytes.{laid}
use Rattle.writer.specs.ToWrite.{command_words}
use Rattle.writer.proofs.Walking.{Sound, left}
use Rattle.writer.proofs.parts.store_commands.Given as goal

abbrev pub invariant-loop-at : goal.invariant-loop-at
invariant-loop-at l =
    record {
      stored : laid l.script l.to (left (map bits_of l.commands) l.at l.start) ≡
          laid l.fn.script l.fn.first (command_words l.commands);
      sound : Sound (map bits_of l.commands) l.at l.start;
      room : 4 * (l.to + length (left (map bits_of l.commands) l.at l.start)) ≤ length l.script;
    }

abbrev pub decreases-loop-at : goal.decreases-loop-at
decreases-loop-at l = length l.commands - l.at
