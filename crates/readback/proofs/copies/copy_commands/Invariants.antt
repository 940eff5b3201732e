-- `copy_commands` writes shortened pieces over the words lent: those left are whole, and placed behind
-- the others give all of them written. Assumes nothing.
use Rattle.std.proofs.Common.{◌≡◌, ◌-◌, map}
use Rattle.fixed.specs.Integers.{signed}
use Rattle.words.specs.Words.{raw_at}
use Rattle.words.specs.Bytes.{over, placed}
use Rattle.readback.specs.ReadBack.{pieces_from, shortened}
use Rattle.readback.proofs.Shortened.{pieces_left, Walk}
use Rattle.readback.proofs.copies.copy_commands.Given as goal

abbrev pub invariant-loop-at : goal.invariant-loop-at
invariant-loop-at l =
    record {
      walks : Walk (raw_at l.script) l.first l.n l.to l.at;
      written :
          placed l.commands l.to (map signed (shortened (pieces_left (raw_at l.script) l.first l.n l.at))) ≡
          over (map signed (shortened (pieces_from (raw_at l.script) l.first l.n))) l.initial.commands;
    }

abbrev pub decreases-loop-at : goal.decreases-loop-at
decreases-loop-at l = l.n - l.at
