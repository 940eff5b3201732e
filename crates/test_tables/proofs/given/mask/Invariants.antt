-- The bytes are the first `i` of the row, and zeros. Assumes nothing.
use Rattle.std.proofs.Common.{◌≡◌, ◌+◌, ◌-◌, ◌≤◌, ◌++◌, length, replicate}
use Rattle.test_tables.specs.Given.{bytes_in}
use Rattle.test_tables.proofs.given.mask.Given as goal

abbrev pub invariant-loop-i : goal.invariant-loop-i
invariant-loop-i l =
    (l.bytes ≡ bytes_in l.row (l.at + 1) l.i ++ replicate (13 - l.i) 0) × ((l.i ≤ l.n) × (length l.bytes ≡ 13))
