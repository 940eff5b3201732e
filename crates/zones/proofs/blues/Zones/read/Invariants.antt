-- `Zones::read`'s loop: what is still to be read, read into the zones so far, gives what all gives read
-- into the first; and no more zones are kept than pairs read. Assumes nothing.
use Rattle.std.proofs.Common.{◌≡◌, ◌+◌, ◌≤◌, take, drop}
use Rattle.zones.specs.Zones.{read_in}
use Rattle.zones.proofs.blues.Zones.read.Given as goal

abbrev pub invariant-loop-pair : goal.invariant-loop-pair
invariant-loop-pair l =
    let pairs = take l.fn.n l.fn.blues.pairs in record {
      rest : read_in l.other l.fn.self pairs ≡ read_in l.other l.zones (drop l.pair-index pairs);
      room : l.zones.count ≤ l.fn.self.count + l.pair-index;
    }
