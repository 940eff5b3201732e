-- `count_records` counts the records in the first words of an output: those counted, and those in
-- the words from here on, are all of them. Assumes nothing.
use Rattle.std.proofs.Common.{◌≡◌, ◌+◌, ◌-◌, ◌≤◌, take, drop}
use Rattle.script.specs.Count.{records_in}
use Rattle.script.proofs.count.count_records.Given as goal

abbrev pub invariant-loop-at : goal.invariant-loop-at
invariant-loop-at l =
    (l.count + records_in (drop l.at (take l.end l.out)) ≡ records_in (take l.words l.out)) ×
    ((l.count ≤ l.at) × (l.at ≤ l.end + 6))

abbrev pub decreases-loop-at : goal.decreases-loop-at
decreases-loop-at l = l.end - l.at
