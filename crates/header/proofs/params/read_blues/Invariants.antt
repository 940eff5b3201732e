-- `read_blues` reads pairs one by one. The loop's invariant: the first `i` pairs are read, and the
-- others are zeros. Assumes nothing.
use Rattle.std.proofs.Common.{◌≡◌, ◌++◌, ◌-◌}
use lib.ListN.{replicate}
use Rattle.zones.specs.Zones.{no_blue}
use Rattle.words.specs.Words.{raw_at}
use Rattle.header.specs.Params.{pairs_from}
use Rattle.header.proofs.params.read_blues.Given as goal

abbrev pub invariant-loop-i : goal.invariant-loop-i
invariant-loop-i l = l.place-items ≡ pairs_from (raw_at l.script) l.at l.i ++ replicate (l.count - l.i) no_blue
